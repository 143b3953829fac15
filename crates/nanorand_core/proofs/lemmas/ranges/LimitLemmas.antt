-- The limits of a draw from a range: its bounds and the number of its words.
use Rattle.std.proofs.Common.{◌≡◌, ℕ, zero, suc, ◌+◌, ◌^◌, ◌<◌, ◌≤◌, ◌&&◌, Bool, true, List, Option, Some, None, Result}
use Rattle.std.proofs.Common.{Ok, Err, length, map, filter, nat_eq, slice_get, slice_index, is_some, ok_or}
use Rattle.std.proofs.Common.{option_and_then, refl, sym, ◌∙◌, ap, inl, inr, arith, subst}
use Rattle.std.specs.Result.{IfOk, IfErr}
use Rattle.std.specs.Fn.{iterate}
use Rattle.std.specs.List.{All, range_with_len}
use Rattle.std.specs.declared.ops.Bound.{Bound}
use Rattle.std.proofs.lemmas.Bool.{cases_Bool, and_from, and_parts, ne_eqb, false≢true}
use Rattle.std.proofs.lemmas.List.Elements.{filter_passes}
use Rattle.std.proofs.lemmas.List.Quantifiers.{position-Some}
use Rattle.std.proofs.lemmas.Option.{slice_get_within, get_or_from_slice_get, slice_get_cases}
use Rattle.nanorand_core.specs.values.Runs.{named}
use Rattle.nanorand_core.specs.values.Range.{is_above, is_below, range_within}
use Rattle.nanorand_core.specs.values.RangeLimits.{KeepsLimits}
use Rattle.nanorand_core.specs.values.Draws.{word_limit, after_limit, deciding_place, words_from, number_drawn, left_after, value_drawn, left_by}
use Rattle.nanorand_core.specs.declared.values.range.RangeError.{RangeError}
use Rattle.nanorand_core.specs.declared.values.range.RangeError.TheVariants.{Empty, Exhausted}
use Rattle.nanorand_core.proofs.lemmas.ranges.DrawLemmas.{counted_words}
use Rattle.nanorand_core.proofs.lemmas.ranges.RunLemmas.{Some-named}

-- an element of the numbers, or an error
module _ {T : Type 0} (numbers : List T) where
  element_within : (P : T → Type 0) → All P numbers → (k : ℕ) (element : Option T) → slice_get numbers k ≡ element → IfOk (ok_or element Exhausted) P
  element_within P all k (Some x) is = subst P (get_or_from_slice_get numbers k x x is) (all k x (slice_get_within numbers k x is))
  element_within P all k None is = tt

  answer_within : (P : T → Type 0) → All P numbers → (place : Option ℕ) → IfOk (ok_or (option_and_then (slice_get numbers) place) Exhausted) P
  answer_within P all (Some k) = element_within P all k (slice_get numbers k) refl
  answer_within P all None = tt

refused_by : {T : Type 0} (element : Option T) → IfErr (ok_or element Exhausted) (λ refusal. refusal ≡ Exhausted)
refused_by (Some x) = tt
refused_by None = refl

not_empty : {T : Type 0} (element : Option T) → ok_or element Exhausted ≡ Err Empty → ⊥
not_empty (Some x) is = cc
not_empty None is = cc

not_drawn : {T : Type 0} (numbers : List T) (place : Option ℕ) → ((k : ℕ) → place ≡ Some k → k < length numbers)
    → ok_or (option_and_then (slice_get numbers) place) Exhausted ≡ Err Exhausted → place ≡ None
not_drawn numbers (Some k) below is =
    elim (slice_get_cases numbers k).1 [
      | inl element ↦ let clash : ◌≡◌ {A = Result _ RangeError} (Ok element.0) (Err Exhausted) = rw element.2 at is in absurd cc
      | inr past ↦ let low = below k refl in absurd (omega (arith, past.0, low))
    ]
not_drawn numbers None below is = refl

-- a filter of numbers of which one passes is not empty
filter-some : {T : Type 0} (p : T → Bool) (f : ℕ → T) (a n k : ℕ) → a ≤ k → k < a + n → p (f k) ≡ true → 0 < length (filter p (map f (range_with_len a n)))
filter-some p f a zero k low high hit = absurd (omega arith)
filter-some p f a (suc n) k low high hit =
    elim (cases_Bool (p (f a))) [
      | inl here ↦ rw here (omega arith)
      | inr miss ↦
          let other : (a ≡ k) → ⊥ = λ same. false≢true (sym miss ∙ ap (λ j. p (f j)) same ∙ hit) in
          rw miss (filter-some p f (a + 1) n k (omega (arith, other)) (omega arith) hit)
    ]

-- the decided number is below the size, and every list of words with a deciding word decides a
-- number
module _ (bits size : ℕ) (words : List ℕ) where
  decided-below : (k : ℕ) (place : Option ℕ) → option_and_then (λ i. named bits size (slice_index words i)) place ≡ Some k → k < size
  decided-below k (Some i) is = (Some-named bits size (slice_index words i) k is).below
  decided-below k None is = cc

  decided-none : (place : Option ℕ) → deciding_place bits size words ≡ place
      → option_and_then (λ i. named bits size (slice_index words i)) place ≡ None → place ≡ None
  decided-none (Some i) is none =
      let found = position-Some (λ w. is_some (named bits size w)) words i 0 is in
      absurd (false≢true (sym (ap is_some none) ∙ found.1))
  decided-none None is none = refl

-- the result of a draw from a list of numbers, and the state that it leaves
module _ {G T : Type 0} (word : G → ℕ) (after : G → G) (bits : ℕ) (numbers : List T) (g : G) where
  value_within : (P : T → Type 0) → All P numbers → IfOk (value_drawn word after bits numbers g) P
  unfolding value_drawn
  value_within P all =
      elim (cases_Bool (nat_eq (length numbers) 0)) [
        | inl none ↦ rw none tt
        | inr some ↦ rw some (answer_within numbers P all (number_drawn word after word_limit bits (length numbers) g))
      ]

  value_some : 0 < length numbers → IfErr (value_drawn word after bits numbers g) (λ refusal. refusal ≡ Exhausted)
  unfolding value_drawn
  value_some some =
      rw (ne_eqb (length numbers) 0 (λ none. omega arith))
      (refused_by (option_and_then (slice_get numbers) (number_drawn word after word_limit bits (length numbers) g)))

  left_words : (n : ℕ) × (n ≤ word_limit) × (left_by word after bits numbers g ≡ iterate after n g)
  unfolding left_by
  left_words =
      elim (cases_Bool (nat_eq (length numbers) 0)) [
        | inl none ↦ rw none (0, omega arith, refl)
        | inr some ↦ rw some (counted_words word after word_limit bits (length numbers) g _ refl)
      ]

  left_empty : value_drawn word after bits numbers g ≡ Err Empty → left_by word after bits numbers g ≡ g
  unfolding value_drawn left_by
  left_empty refused =
      elim (cases_Bool (nat_eq (length numbers) 0)) [
        | inl none ↦ rw none refl
        | inr some ↦ absurd (not_empty (option_and_then (slice_get numbers) (number_drawn word after word_limit bits (length numbers) g)) (rw some at refused))
      ]

  left_exhausted : value_drawn word after bits numbers g ≡ Err Exhausted → left_by word after bits numbers g ≡ after_limit after g
  unfolding value_drawn left_by left_after after_limit
  left_exhausted refused =
      elim (cases_Bool (nat_eq (length numbers) 0)) [
        | inl none ↦ let clash : ◌≡◌ {A = Result T RangeError} (Err Empty) (Err Exhausted) = rw none at refused in absurd cc
        | inr some ↦
            let words = words_from word after word_limit g in
            let nothing : number_drawn word after word_limit bits (length numbers) g ≡ None =
            not_drawn numbers (number_drawn word after word_limit bits (length numbers) g)
            (λ k is. decided-below bits (length numbers) words k (deciding_place bits (length numbers) words) is) (rw some at refused) in
            let nowhere = decided-none bits (length numbers) words (deciding_place bits (length numbers) words) refl nothing in
            rw (some, nowhere) refl
      ]

module _ {G T : Type 0} (word : G → ℕ) (after : G → G) (le lt : T → T → Bool) (bits : ℕ) (number : ℕ → T) (low high : Bound T) (g : G) where
  admitted : All (λ x. (is_above le lt low x ≡ true) × (is_below le lt high x ≡ true)) (range_within le lt bits number low high)
  unfolding range_within
  admitted k d within = and_parts _ _ (filter_passes (λ x. is_above le lt low x && is_below le lt high x) (map number (range_with_len 0 (2 ^ bits))) k d within)

  has_number : (k : ℕ) → k < 2 ^ bits → is_above le lt low (number k) ≡ true → is_below le lt high (number k) ≡ true
      → 0 < length (range_within le lt bits number low high)
  unfolding range_within
  has_number k fits above below =
      filter-some (λ x. is_above le lt low x && is_below le lt high x) number 0 (2 ^ bits) k (omega arith) (omega arith) (and_from _ _ above below)

  pub keeps_limits : KeepsLimits le lt bits number after low high g
      (value_drawn word after bits (range_within le lt bits number low high) g, left_by word after bits (range_within le lt bits number low high) g)
  keeps_limits =
      let numbers = range_within le lt bits number low high in
      record {
        within = value_within word after bits numbers g (λ x. (is_above le lt low x ≡ true) × (is_below le lt high x ≡ true)) admitted;
        words = left_words word after bits numbers g;
        some = λ k fits above below. value_some word after bits numbers g (has_number k fits above below);
        empty = left_empty word after bits numbers g;
        exhausted = left_exhausted word after bits numbers g;
      }
