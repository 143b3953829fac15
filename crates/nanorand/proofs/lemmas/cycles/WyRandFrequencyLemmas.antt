-- How often each word of WyRand occurs on its cycle, and the proof that some word never occurs.
use Rattle.std.proofs.Common.{◌≡◌, ◌≢◌, ℕ, ◌+◌, ◌-◌, ◌*◌, ◌%◌, ◌^◌, ◌<◌, ◌≤◌, nat_eq, refl, sym, ◌∙◌, arith, lit<, bit_xor}
use Rattle.std.specs.List.{count_by, range_with_len}
use Rattle.std.proofs.lemmas.Bool.{eq-eqb, eqb-true}
use Rattle.std.proofs.lemmas.Nat.{mul-lt, xor_lt}
use Rattle.nanorand.specs.generators.WyRand.{word, seed_after}
use Rattle.nanorand.specs.generators.Frequencies.{wyrand_word_count, wyrand_seeds_with, SomeWordNeverComes}
use Rattle.nanorand.proofs.lemmas.cycles.CountLemmas.{count-moved, count-one, comes_twice, some_value_missing}
use Rattle.nanorand.proofs.lemmas.cycles.HalvesLemmas.{folded-lt}
use Rattle.nanorand.proofs.lemmas.cycles.WyRandLemmas.{draws_between, seed_after-draws_between, seed_after-agree}

-- the definitions, unfolded for a variable n: for a numeral they would list all numbers below it
word_count-is : (n s w : ℕ) → wyrand_word_count n s w ≡ count_by (λ i. nat_eq (word (seed_after (i + 1) s)) w) (range_with_len 0 n)
unfolding wyrand_word_count
word_count-is n s w = refl

seeds_with-is : (n w : ℕ) → wyrand_seeds_with n w ≡ count_by (λ t. nat_eq (word t) w) (range_with_len 0 n)
unfolding wyrand_seeds_with
seeds_with-is n w = refl

word-fits : (s : ℕ) → s < 2 ^ 64 → word s < 2 ^ 64
word-fits s fits =
    folded-lt (s * bit_xor s 0xe7037ed1a0b428db)
    (mul-lt s (bit_xor s 0xe7037ed1a0b428db) (2 ^ 64) (2 ^ 64) fits (xor_lt 64 s 0xe7037ed1a0b428db fits (lit< tt)))

module _ (s : ℕ) (s_fits : s < 2 ^ 64) where
  abbrev value : ℕ → ℕ
  value i = seed_after (i + 1) s

  value-fits : (i : ℕ) → i < 2 ^ 64 → value i < 2 ^ 64
  value-fits i below = omega arith

  found : (t : ℕ) → t < 2 ^ 64 → (i : ℕ) × (i < 2 ^ 64) × (value i ≡ t)
  found t fits =
      let draws = draws_between s t in
      let i = (draws + (2 ^ 64 - 1)) % 2 ^ 64 in
      let same : (i + 1) % 2 ^ 64 ≡ draws % 2 ^ 64 = omega arith in
      (i, omega arith, (seed_after-agree s s_fits (i + 1) draws).1 same ∙ seed_after-draws_between s t s_fits fits)

  once : (i k : ℕ) → i < 2 ^ 64 → k < 2 ^ 64 → value i ≡ value k → i ≡ k
  once i k i_below k_below same = let agree = (seed_after-agree s s_fits (i + 1) (k + 1)).0 same in omega (arith, agree)

  each : (t : ℕ) → t < 2 ^ 64 → count_by (λ i. nat_eq (value i) t) (range_with_len 0 (2 ^ 64)) ≡ 1
  each t fits =
      let i = found t fits in
      count-one (λ i. nat_eq (value i) t) i.0 (2 ^ 64) i.1 (eq-eqb (value i.0) t i.2)
      (λ k below same. once k i.0 below i.1 (eqb-true (value k) t same ∙ sym i.2))

  -- in a whole cycle each word occurs once for each seed that has it
  pub wyrand_words_of_the_cycle : (w : ℕ) → wyrand_word_count (2 ^ 64) s w ≡ wyrand_seeds_with (2 ^ 64) w
  wyrand_words_of_the_cycle w =
      word_count-is (2 ^ 64) s w ∙ count-moved (λ t. nat_eq (word t) w) (2 ^ 64) (2 ^ 64) value value-fits each ∙ sym (seeds_with-is (2 ^ 64) w)

-- the seeds 0 and 0xe7037ed1a0b428db have the word 0
zeros_apart : ◌≢◌ {A = ℕ} 0 0xe7037ed1a0b428db
zeros_apart same = omega arith

zeros : word 0 ≡ word 0xe7037ed1a0b428db
zeros = refl

pub zero_comes_twice : 2 ≤ wyrand_seeds_with (2 ^ 64) 0
zero_comes_twice = rw (seeds_with-is (2 ^ 64) 0) (comes_twice word (2 ^ 64) word-fits 0 0xe7037ed1a0b428db (lit< tt) (lit< tt) zeros_apart zeros)

pub some_word_never_comes : SomeWordNeverComes
some_word_never_comes =
    let missing = some_value_missing word (2 ^ 64) word-fits 0 0xe7037ed1a0b428db (lit< tt) (lit< tt) zeros_apart zeros in
    (missing.0, missing.1, λ n seed. missing.2 (seed_after n seed) (omega arith))
