-- How often each word of Pcg64 occurs on a cycle: the seeds of a cycle whose word is w are counted,
-- and each occurs once.
use Rattle.std.proofs.Common.{◌≡◌, ℕ, ◌+◌, ◌-◌, ◌*◌, ◌/◌, ◌%◌, ◌^◌, ◌<◌, ◌⊎◌, inl, inr, Bool, true, cond, nat_eq, refl, sym, ap, ◌∙◌, arith, bit_xor}
use Rattle.std.specs.List.{count_by, range_with_len}
use Rattle.std.specs.Int.Bits.{xor_assoc, xor_zero_r, xor_self}
use Rattle.std.proofs.lemmas.Nat.{xor_lt}
use Rattle.std.proofs.lemmas.Bool.{cases_eq, eq-eqb, ne_eqb, eqb-true}
use Rattle.nanorand_core.specs.values.Runs.{words_that}
use Rattle.nanorand.specs.generators.Halves.{folded}
use Rattle.nanorand.specs.generators.Pcg64.{seed_after, SameCycle}
use Rattle.nanorand.specs.generators.Frequencies.{pcg64_word_count, pcg64_words_that}
use Rattle.nanorand.proofs.lemmas.cycles.CountLemmas.{count-matched, count-values}
use Rattle.nanorand.proofs.lemmas.cycles.HalvesLemmas.{folded-lt}
use Rattle.nanorand.proofs.lemmas.cycles.Pcg64Lemmas.{seed_after-agree}
use Rattle.nanorand.proofs.lemmas.cycles.ReachLemmas.{reached, seed_after-class}

-- the low halves of the seeds on the cycle of a seed that is r modulo 8: r and 7 - r in turn,
-- modulo 8
abbrev low : ℕ → ℕ → ℕ
low r j = j / 2 * 8 + cond (nat_eq (j % 2) 0) r (7 - r)

low-cases : (r j : ℕ) → ((j % 2 ≡ 0) × (low r j ≡ j / 2 * 8 + r)) ⊎ ((j % 2 ≡ 1) × (low r j ≡ j / 2 * 8 + (7 - r)))
low-cases r j =
    elim (cases_eq (j % 2) 0) [
      | inl even ↦ inl (even, ap (λ (b : Bool). j / 2 * 8 + cond b r (7 - r)) (eq-eqb (j % 2) 0 even))
      | inr odd ↦ inr (omega arith, ap (λ (b : Bool). j / 2 * 8 + cond b r (7 - r)) (ne_eqb (j % 2) 0 odd))
    ]

low-fits : (r j : ℕ) → r < 8 → j < 2 ^ 62 → low r j < 2 ^ 64
low-fits r j small below = elim (low-cases r j) [
  | inl even ↦ omega (arith, even)
  | inr odd ↦ omega (arith, odd)
]

low-apart : (r j k : ℕ) → r < 8 → low r j ≡ low r k → j ≡ k
low-apart r j k small same = elim (low-cases r j) [
  | inl even ↦ elim (low-cases r k) [
    | inl even' ↦ omega (arith, even, even')
    | inr odd' ↦ omega (arith, even, odd')
  ]
  | inr odd ↦ elim (low-cases r k) [
    | inl even' ↦ omega (arith, odd, even')
    | inr odd' ↦ omega (arith, odd, odd')
  ]
]

-- the seed of the cycle with this low half and the word w
abbrev with_word : ℕ → ℕ → ℕ
with_word w lo = bit_xor w lo * 2 ^ 64 + lo

high-fits : (w lo : ℕ) → w < 2 ^ 64 → lo < 2 ^ 64 → bit_xor w lo < 2 ^ 64
high-fits w lo w_fits lo_fits = xor_lt 64 w lo w_fits lo_fits

with_word-fits : (w lo : ℕ) → w < 2 ^ 64 → lo < 2 ^ 64 → with_word w lo < 2 ^ 128
with_word-fits w lo w_fits lo_fits = let high = high-fits w lo w_fits lo_fits in omega (arith, high)

xor-twice : (a b : ℕ) → bit_xor (bit_xor a b) b ≡ a
xor-twice a b = xor_assoc a b b ∙ ap (bit_xor a) (xor_self b) ∙ xor_zero_r a

folded-with_word : (w lo : ℕ) → lo < 2 ^ 64 → folded (with_word w lo) ≡ w
folded-with_word w lo lo_fits =
    let high : with_word w lo / 2 ^ 64 ≡ bit_xor w lo = omega arith in
    let low_half : with_word w lo % 2 ^ 64 ≡ lo = omega arith in
    ap (λ (h : ℕ). bit_xor h (with_word w lo % 2 ^ 64)) high ∙ ap (bit_xor (bit_xor w lo)) low_half ∙ xor-twice w lo

-- a seed is made of its word and its low half
with_word-folded : (t : ℕ) → with_word (folded t) (t % 2 ^ 64) ≡ t
with_word-folded t =
    ap (λ (h : ℕ). h * 2 ^ 64 + t % 2 ^ 64) (xor-twice (t / 2 ^ 64) (t % 2 ^ 64)) ∙ omega arith

module _ (s w : ℕ) (w_fits : w < 2 ^ 64) where
  r_small : s % 8 < 8
  r_small = omega arith

  abbrev number : ℕ → ℕ
  number j = with_word w (low (s % 8) j)

  number-fits : (j : ℕ) → j < 2 ^ 62 → number j < 2 ^ 128
  number-fits j below = with_word-fits w (low (s % 8) j) w_fits (low-fits (s % 8) j r_small below)

  number-class : (j : ℕ) → SameCycle s (number j)
  number-class j =
      let same : number j % 8 ≡ low (s % 8) j % 8 = omega arith in
      elim (low-cases (s % 8) j) [
        | inl even ↦ inl (omega (arith, same, even))
        | inr odd ↦ inr (omega (arith, same, odd))
      ]

  number-apart : (j k : ℕ) → j < 2 ^ 62 → k < 2 ^ 62 → number j ≡ number k → j ≡ k
  number-apart j k j_below k_below same =
      let j_fits = low-fits (s % 8) j r_small j_below in
      let k_fits = low-fits (s % 8) k r_small k_below in
      let lows : low (s % 8) j ≡ low (s % 8) k = omega (arith, j_fits, k_fits, same) in
      low-apart (s % 8) j k r_small lows

  number-word : (j : ℕ) → j < 2 ^ 62 → folded (number j) ≡ w
  number-word j below = folded-with_word w (low (s % 8) j) (low-fits (s % 8) j r_small below)

  -- each seed of the cycle with this word is one of the numbers
  number-found : (t : ℕ) → SameCycle s t → folded t ≡ w → (j : ℕ) × (j < 2 ^ 62) × (number j ≡ t)
  number-found t (inl same) word =
      let lo = t % 2 ^ 64 in
      let j = lo / 8 * 2 in
      let here : low (s % 8) j ≡ lo = elim (low-cases (s % 8) j) [
        | inl even ↦ omega (arith, even, same)
        | inr odd ↦ absurd (omega (arith, odd))
      ] in
      (j, omega arith, ap (with_word w) here ∙ ap (λ (v : ℕ). with_word v lo) (sym word) ∙ with_word-folded t)
  number-found t (inr turned) word =
      let lo = t % 2 ^ 64 in
      let j = lo / 8 * 2 + 1 in
      let here : low (s % 8) j ≡ lo = elim (low-cases (s % 8) j) [
        | inl even ↦ absurd (omega (arith, even))
        | inr odd ↦ omega (arith, odd, turned)
      ] in
      (j, omega arith, ap (with_word w) here ∙ ap (λ (v : ℕ). with_word v lo) (sym word) ∙ with_word-folded t)

  abbrev value : ℕ → ℕ
  value i = seed_after (i + 1) s

  abbrev comes : ℕ → Bool
  comes i = nat_eq (folded (value i)) w

  found : (j : ℕ) → j < 2 ^ 62 → (i : ℕ) × (i < 2 ^ 126) × (value i ≡ number j)
  found j below =
      let draws = reached s (number j) (number-fits j below) (number-class j) in
      let i = (draws.0 + (2 ^ 126 - 1)) % 2 ^ 126 in
      let same : (i + 1) % 2 ^ 126 ≡ draws.0 % 2 ^ 126 = omega arith in
      (i, omega arith, (seed_after-agree s (i + 1) draws.0).1 same ∙ draws.1)

  once : (i k : ℕ) → i < 2 ^ 126 → k < 2 ^ 126 → value i ≡ value k → i ≡ k
  once i k i_below k_below same = let agree = (seed_after-agree s (i + 1) (k + 1)).0 same in omega (arith, agree)

  passing : (i : ℕ) → i < 2 ^ 126 → comes i ≡ true → (j : ℕ) × (j < 2 ^ 62) × (number j ≡ value i)
  passing i below hit = number-found (value i) (seed_after-class (i + 1) s) (eqb-true (folded (value i)) w hit)

  pass : (i j : ℕ) → i < 2 ^ 126 → j < 2 ^ 62 → value i ≡ number j → comes i ≡ true
  pass i j i_below j_below same = eq-eqb (folded (value i)) w (ap folded same ∙ number-word j j_below)

  comes-one : count_by comes (range_with_len 0 (2 ^ 126)) ≡ 2 ^ 62
  comes-one = count-matched comes (2 ^ 126) (2 ^ 62) value number found once number-apart passing pass

-- the definitions, unfolded for a variable n: for a numeral they would list all numbers below it
word_count-is : (n s w : ℕ) → pcg64_word_count n s w ≡ count_by (λ i. nat_eq (folded (seed_after (i + 1) s)) w) (range_with_len 0 n)
unfolding pcg64_word_count
word_count-is n s w = refl

words_that-is : (n s : ℕ) (test : ℕ → Bool) → pcg64_words_that n s test ≡ count_by (λ i. test (folded (seed_after (i + 1) s))) (range_with_len 0 n)
unfolding pcg64_words_that
words_that-is n s test = refl

all_words-are : (bits : ℕ) (test : ℕ → Bool) → words_that bits test ≡ count_by test (range_with_len 0 (2 ^ bits))
unfolding words_that
all_words-are bits test = refl

pub pcg64_words_of_a_cycle : (s w : ℕ) → w < 2 ^ 64 → pcg64_word_count (2 ^ 126) s w ≡ 2 ^ 62
pcg64_words_of_a_cycle s w w_fits = word_count-is (2 ^ 126) s w ∙ comes-one s w w_fits

-- of the words of a cycle, 2 ^ 62 pass a test for each of the 2 ^ 64 numbers that passes it
pub pcg64_events_of_a_cycle : (s : ℕ) (test : ℕ → Bool) → pcg64_words_that (2 ^ 126) s test ≡ words_that 64 test * 2 ^ 62
pcg64_events_of_a_cycle s test =
    words_that-is (2 ^ 126) s test
    ∙ count-values test (2 ^ 126) (2 ^ 64) (2 ^ 62) (λ i. folded (seed_after (i + 1) s)) (λ i _. folded-lt (seed_after (i + 1) s) (omega arith))
    (comes-one s)
    ∙ ap (λ (k : ℕ). k * 2 ^ 62) (sym (all_words-are 64 test))
