-- The outcome of a draw from a range: the number at the drawn index, or an error.
use Rattle.std.proofs.Common.{◌≡◌, ℕ, zero, suc, ◌+◌, ◌<◌, Bool, false, List, Option, Some, None, Ok, Err, nat_eq}
use Rattle.std.proofs.Common.{length, find, slice_get, slice_index, option_and_then, ok_or, refl, ◌∙◌, ap, inl, inr}
use Rattle.std.proofs.Common.{arith}
use Rattle.std.specs.List.{range_with_len}
use Rattle.std.proofs.lemmas.Bool.{cases_Bool, ne_eqb}
use Rattle.std.proofs.lemmas.List.FromFn.{length-range_with_len, get_or-range_with_len}
use Rattle.std.proofs.lemmas.Option.{slice_get-get_or}
use Rattle.nanorand_core.specs.generators.Blocks.{Requests}
use Rattle.nanorand_core.specs.values.Runs.{named, is_in_run}
use Rattle.nanorand_core.specs.values.Draws.{next_word, after_word, drawn_below, range_outcome, word_limit, words_from}
use Rattle.nanorand_core.specs.values.Draws.{deciding_place, number_drawn, left_after, value_drawn, left_by}
use Rattle.nanorand_core.specs.declared.values.range.RangeError.TheVariants.{Exhausted}
use Rattle.nanorand_fairness.specs.InTurn.{by_word}

-- a number that is found is below the end
find-below : (p : ℕ → Bool) (a n k : ℕ) → find p (range_with_len a n) ≡ Some k → k < a + n
find-below p a zero k is = cc
find-below p a (suc n) k is =
    elim (cases_Bool (p a)) [
      | inl hit ↦
          let found : Some a ≡ Some k = rw hit at is in
          let same : a ≡ k = cc in
          omega arith
      | inr miss ↦
          let later : find p (range_with_len (a + 1) n) ≡ Some k = rw miss at is in
          omega (arith, find-below p (a + 1) n k later)
    ]

word-below : (bits size word k : ℕ) → named bits size word ≡ Some k → k < size
unfolding named
word-below bits size word k is = omega (arith, find-below (is_in_run bits size word) 0 size k is)

-- the index drawn among `size` numbers
place-below : (bits size : ℕ) (words : List ℕ) (place : Option ℕ) (k : ℕ)
    → option_and_then (λ i. named bits size (slice_index words i)) place ≡ Some k → k < size
place-below bits size words None k is = absurd cc
place-below bits size words (Some i) k is = word-below bits size (slice_index words i) k is

module _ {G : Type 0} (word : G → ℕ) (after : G → G) (bits first size : ℕ) (some : 0 < size) (g : G) where
  abbrev drawn : Option ℕ
  drawn = number_drawn word after word_limit bits size g

  not_empty : nat_eq (length (range_with_len first size)) 0 ≡ false
  not_empty = rw (length-range_with_len first size) (ne_eqb size 0 (λ zero. omega arith))

  at_place : (o : Option ℕ) → drawn ≡ o → ok_or (option_and_then (slice_get (range_with_len first size)) o) Exhausted
      ≡ by_word o (λ k. Ok (first + k)) (Err Exhausted)
  at_place None is = refl
  at_place (Some k) is =
      let low = place-below bits size (words_from word after word_limit g) (deciding_place bits size (words_from word after word_limit g)) k is in
      let long = length-range_with_len first size in
      let at = slice_get-get_or (range_with_len first size) k 0 (omega (arith, long)) ∙ ap (λ (n : ℕ). Some n) (get_or-range_with_len first size k 0 low) in
      rw at refl

  value_by : value_drawn word after bits (range_with_len first size) g ≡ by_word drawn (λ k. Ok (first + k)) (Err Exhausted)
  unfolding value_drawn
  value_by = rw (not_empty, length-range_with_len first size) (at_place drawn refl)

  state_by : left_by word after bits (range_with_len first size) g ≡ left_after word after word_limit bits size g
  unfolding left_by
  state_by = rw (not_empty, length-range_with_len first size) refl

-- the outcome over the numbers of a range is that of a draw of an index
pub outcome_by : {G : Type 0} (requests : Requests G) (bits first size : ℕ) (numbers : List ℕ) (g : G) → 0 < size → numbers ≡ range_with_len first size
    → let draw = drawn_below requests bits size g in
    range_outcome requests bits numbers g ≡ (by_word draw.number (λ k. Ok (first + k)) (Err Exhausted), draw.state)
outcome_by requests bits first size numbers g some is =
    let word = next_word requests bits in
    let after = after_word requests bits in
    rw (is, value_by word after bits first size some g, state_by word after bits first size some g) refl
