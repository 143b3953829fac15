-- Known answers: parts of a stream, their numbers, and what tasks write that run on them.
use Rattle.std.specs.Prelude.{◌≡◌, ◌==◌, ◌-◌, ℕ, false, if◌then◌else◌, nat_eq, refl, ◌+◌, ◌*◌, ◌%◌, ◌^◌, [], ◌∷◌}
use Rattle.nanorand.specs.generators.Parts.{ComesAgain, GoesOnward, NothingTwice, PartsAreApart, after_draws, left_in_turn, numbers_of_part, on_a_copy, part_at, results_after, results_in_turn}
use Rattle.nanorand.specs.generators.Pcg64.{initial_generator, pcg64_requests}
use Rattle.nanorand.specs.generators.WyRand.{seed_after, wyrand_requests}
use Rattle.nanorand_core.specs.generators.Blocks.{Requests, taken}
use Rattle.std.proofs.Common.{arith}
use Rattle.std.proofs.lemmas.Bool.{ne_eqb}

-- The numbers of part 1 of parts of two draws, from the seed 0.
wyrand_part : numbers_of_part wyrand_requests 2 0 1 ≡ 0x61fb51318f47d2a4 ∷ 0x78bd03c491909760 ∷ []
unfolding after_draws taken
wyrand_part = refl

pcg64_part : numbers_of_part pcg64_requests 2 (initial_generator 0) 1 ≡ 0x35f5d616be12c0da ∷ 0x893a4281b9106394 ∷ []
unfolding after_draws taken
pcg64_part = refl

-- Part 0 begins at the stream itself, and so does every part of no draws.
first_part : part_at wyrand_requests 5 0 7 ≡ 7
unfolding after_draws
first_part = refl

empty_part : part_at wyrand_requests 0 5 7 ≡ 7
unfolding after_draws
empty_part = refl

-- Tasks in another order, with one of them run twice.
tasks : results_after (λ i. 10 * i + 3) (2 ∷ 0 ∷ 2 ∷ 1 ∷ []) (7 ∷ 7 ∷ 7 ∷ []) ≡ 3 ∷ 13 ∷ 23 ∷ []
tasks = refl

-- Items that no task writes stay unchanged, and an index past the end writes nothing.
some_tasks : results_after (λ i. 10 * i + 3) (1 ∷ 5 ∷ []) (7 ∷ 7 ∷ 7 ∷ []) ≡ 7 ∷ 13 ∷ 7 ∷ []
some_tasks = refl

-- A stream of 2^64 + 1 draws is not apart: its last seed is the first one again.
too_many_draws : PartsAreApart (2 ^ 64 + 1) (λ n. seed_after n 5) → ⊥
too_many_draws apart =
    let same = apart (2 ^ 64 + 1) 1 0 0 (2 ^ 64) 0 (omega arith) (omega arith) (omega arith) (omega arith) (omega arith) refl in
    absurd (omega (arith, same.0))

-- A generator that stays in its state has some state twice in every period of 2 draws or more.
staying : NothingTwice {S = ℕ} (2 ^ 127) (λ _. 5) → ⊥
staying once = absurd (omega (arith, once 0 1 (omega arith) (omega arith) refl))

-- A generator that counts has no state twice, and none repeats.
counting : NothingTwice {S = ℕ} (2 ^ 127) (λ n. n + 5)
counting m n low high same = omega (arith, same)

never_again : ComesAgain {S = ℕ} 7 (λ n. n + 5) → ⊥
never_again again = absurd (omega (arith, again.2 again.0 (omega arith)))

-- A count modulo 7 repeats after 7, from the first state on. It does not repeat after 6. No
-- sequence repeats after 0.
every_seven : ComesAgain {S = ℕ} 7 (λ n. (n + 5) % 7)
every_seven = (0, omega arith, λ n _. omega arith)

not_every_six : ComesAgain {S = ℕ} 6 (λ n. (n + 5) % 7) → ⊥
not_every_six again = absurd (omega (arith, again.2 again.0 (omega arith)))

not_after_none : ComesAgain {S = ℕ} 0 (λ n. n) → ⊥
not_after_none again = absurd (omega (arith, again.1))

-- Three tasks in turn on one count, each of which adds ten to it.
in_turn : results_in_turn {G = ℕ} {T = ℕ} (λ i g. (2 * g + i, g + 10)) 3 5 ≡ 10 ∷ 31 ∷ 52 ∷ []
in_turn = refl

left : left_in_turn {G = ℕ} {T = ℕ} (λ i g. (2 * g + i, g + 10)) 3 5 ≡ 35
left = refl

-- A task on a copy: the result is that of the seed itself, and the seed moves ahead by two draws.
copied : on_a_copy wyrand_requests (λ i seed. 2 * seed + i) 2 3 7 ≡ (17, part_at wyrand_requests 2 1 7)
copied = refl

-- A generator that counts down and then stays would repeat after one draw, but not from an early
-- enough state on.
not_so_late : ComesAgain {S = ℕ} 1 (λ n. 2 - n) → ⊥
not_so_late again = absurd (omega (arith, again.1, again.2 0 (omega (arith, again.1))))

-- A request of four bytes that does not change the state does not go onward.
stuck : Requests ℕ
stuck = record { bytes = λ _ _. []; after = λ g n. if n == 8 then g + 1 else g }

not_onward : GoesOnward stuck 4 5 → ⊥
unfolding after_draws stuck
not_onward onward =
    let one : onward.0 ≡ 1 = omega (arith, onward.2, onward.3 (omega arith)) in
    let other : nat_eq onward.1 8 ≡ false = ne_eqb onward.1 8 (λ same. omega (arith, onward.4)) in
    let left = rw (one, other) at onward.6 in
    absurd (omega (arith, left))
