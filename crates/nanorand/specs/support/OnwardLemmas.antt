-- Requests advance by whole draws. Not needed to understand the contracts: this file is in specs/
-- only because laws of impls cite its lemmas. Your own implementation of `Parts` may cite
-- `onward_8`.
use Rattle.std.proofs.Common.{◌≡◌, ℕ, zero, suc, ◌+◌, ◌-◌, ◌*◌, ◌<◌, ◌≤◌, List, inl, inr, refl, sym, ◌∙◌, ap, arith}
use Rattle.std.proofs.Math.Nat.{suc-mul}
use Rattle.std.specs.Fn.{iterate}
use Rattle.std.specs.Int.{div_ceil}
use Rattle.nanorand_core.specs.generators.Blocks.{Requests, plain}
use Rattle.nanorand_core.specs.values.Draws.{after_word}
use Rattle.nanorand_replay.specs.generators.Buffered.{Buffered}
use Rattle.nanorand_replay.specs.support.BufferedLemmas.{after_nothing}
use Rattle.nanorand.specs.generators.ChaChaGroups.{chacha_group, next_group, stream_requests}
use Rattle.nanorand.specs.generators.Parts.{GoesOnward, after_draws}
use Rattle.nanorand.specs.support.ChaChaGroupLemmas.{length-chacha_group, stream_states_join}

pub draws-leave : {G : Type 0} (requests : Requests G) (n : ℕ) (g : G) → after_draws requests n g ≡ iterate (after_word requests 64) n g
unfolding after_draws
draws-leave requests n g = refl

-- for a generator without a buffer whose blocks have eight bytes or more, so that a draw is a block
module _ {G : Type 0} (block : G → List ℕ) (step : G → G) (output : ℕ) (none : div_ceil 0 output ≡ 0) (one : div_ceil 8 output ≡ 1)
    (fewer : (n : ℕ) → div_ceil n output ≤ div_ceil n 8) (some : (n : ℕ) → 0 < n → 0 < div_ceil n output) where
  steps : (n : ℕ) (g : G) → iterate (after_word (plain block step output) 64) n g ≡ iterate step n g
  steps zero g = refl
  steps (suc n) g =
      ap (λ (m : ℕ). iterate (after_word (plain block step output) 64) n (iterate step m g)) one ∙ steps n (step g)

  onward-plain : (g : G) (n : ℕ) → GoesOnward (plain block step output) n g
  onward-plain g n =
      let m : ℕ = div_ceil n output in
      let still = ap (λ (k : ℕ). iterate step k (iterate step m g)) none in
      (m, 0, fewer n, some n, omega arith, inl refl, still ∙ sym (draws-leave (plain block step output) m g ∙ steps m g))

module _ {G : Type 0} (block : G → List ℕ) (step : G → G) where
  pub onward_8 : (g : G) (n : ℕ) → GoesOnward (plain block step 8) n g
  onward_8 = onward-plain block step 8 refl refl (λ n. omega arith) (λ n positive. omega arith)

  pub onward_64 : (g : G) (n : ℕ) → GoesOnward (plain block step 64) n g
  onward_64 = onward-plain block step 64 refl refl (λ n. omega arith) (λ n positive. omega arith)

-- for a generator that delivers its requests without a break, so that a draw is eight bytes
module _ {G : Type 0} (requests : Requests G) (nothing : (g : G) → requests.after g 0 ≡ g)
    (adds : (g : G) (m n : ℕ) → requests.after (requests.after g m) n ≡ requests.after g (m + n)) where
  iterated : (n : ℕ) (g : G) → iterate (after_word requests 64) n g ≡ requests.after g (n * 8)
  iterated zero g = sym (nothing g) ∙ ap (requests.after g) (omega arith)
  iterated (suc n) g = iterated n (requests.after g 8) ∙ adds g 8 (n * 8) ∙ ap (requests.after g) (omega (arith, suc-mul n 8))

  bytes-of-draws : (n : ℕ) (g : G) → after_draws requests n g ≡ requests.after g (n * 8)
  bytes-of-draws n g = draws-leave requests n g ∙ iterated n g

  onward-unbroken : (g : G) (n : ℕ) → GoesOnward requests n g
  onward-unbroken g n =
      let m : ℕ = div_ceil n 8 in
      let rest : ℕ = m * 8 - n in (
        m,
        rest,
        omega arith,
        (λ some. omega arith),
        omega arith,
        inr (omega arith),
        adds g n rest ∙ ap (requests.after g) (omega arith) ∙ sym (bytes-of-draws m g),
      )

-- for a stream of ChaCha
module _ (R : ℕ) where
  stream_nothing : (b : Buffered (List ℕ)) → (stream_requests R).after b 0 ≡ b
  stream_nothing = after_nothing (chacha_group R) next_group 512 (omega arith) (length-chacha_group R)

  pub stream_draws : (n : ℕ) (b : Buffered (List ℕ)) → after_draws (stream_requests R) n b ≡ (stream_requests R).after b (n * 8)
  stream_draws = bytes-of-draws (stream_requests R) stream_nothing (stream_states_join R)

  pub onward_stream : (b : Buffered (List ℕ)) (n : ℕ) → GoesOnward (stream_requests R) n b
  onward_stream = onward-unbroken (stream_requests R) stream_nothing (stream_states_join R)
