-- One draw from a list of words: the first word, and the rest of the list.
use Rattle.std.proofs.Common.{◌≡◌, ℕ, zero, suc, ◌+◌, ◌*◌, ◌≤◌, ◌^◌, Bool, true, false, nat_lt, List, [], ◌∷◌, length}
use Rattle.std.proofs.Common.{Option, Some, None, is_some, position, option_map, option_and_then, slice_index, refl}
use Rattle.std.proofs.Common.{◌∙◌, ap, inl, inr, arith}
use Rattle.std.specs.Option.{option_map_or}
use Rattle.std.proofs.Math.Nat.{pow-zero, pow-suc}
use Rattle.std.proofs.lemmas.Bool.{cases_lt, lt-ltb, le-ltb}
use Rattle.std.specs.List.{position_or_len}
use Rattle.nanorand_core.specs.values.Runs.{named}
use Rattle.nanorand_core.specs.values.Draws.{deciding_place, decided}
use Rattle.nanorand_core.specs.values.Fairness.{passes}
use Rattle.nanorand_fairness.specs.Lists.{sum_over_lists}
use Rattle.nanorand_fairness.proofs.lemmas.Sums.{sum-terms, sum-plus, sum-constant}

-- equal terms have equal sums over all lists
pub lists-same : (bits n : ℕ) (f h : List ℕ → ℕ) → ((words : List ℕ) → f words ≡ h words)
    → sum_over_lists bits n f ≡ sum_over_lists bits n h
unfolding sum_over_lists
lists-same bits zero f h same = same []
lists-same bits (suc n) f h same =
    sum-terms (λ word. sum_over_lists bits n (λ words. f (word ∷ words))) (λ word. sum_over_lists bits n (λ words. h (word ∷ words)))
    (λ word. lists-same bits n (λ words. f (word ∷ words)) (λ words. h (word ∷ words)) (λ words. same (word ∷ words))) 0 (2 ^ bits)

pub lists-constant : (bits n c : ℕ) → sum_over_lists bits n (λ words. c) ≡ (2 ^ bits) ^ n * c
unfolding sum_over_lists
lists-constant bits zero c = let one = pow-zero (2 ^ bits) in rw one (omega arith)
lists-constant bits (suc n) c =
    sum-terms (λ word. sum_over_lists bits n (λ words. c)) (λ word. (2 ^ bits) ^ n * c) (λ word. lists-constant bits n c) 0 (2 ^ bits)
    ∙ sum-constant ((2 ^ bits) ^ n * c) 0 (2 ^ bits) ∙ (let more = ap (λ (m : ℕ). m * c) (pow-suc (2 ^ bits) n) in omega (arith, more))

pub lists-plus : (bits n : ℕ) (f h : List ℕ → ℕ)
    → sum_over_lists bits n (λ words. f words + h words) ≡ sum_over_lists bits n f + sum_over_lists bits n h
unfolding sum_over_lists
lists-plus bits zero f h = refl
lists-plus bits (suc n) f h =
    sum-terms (λ word. sum_over_lists bits n (λ words. f (word ∷ words) + h (word ∷ words)))
    (λ word. sum_over_lists bits n (λ words. f (word ∷ words)) + sum_over_lists bits n (λ words. h (word ∷ words)))
    (λ word. lists-plus bits n (λ words. f (word ∷ words)) (λ words. h (word ∷ words))) 0 (2 ^ bits)
    ∙ sum-plus (λ word. sum_over_lists bits n (λ words. f (word ∷ words))) (λ word. sum_over_lists bits n (λ words. h (word ∷ words))) 0 (2 ^ bits)

-- the first index at which a test passes, by whether the first element passes
module _ {X : Type 0} (p : X → Bool) (x : X) (xs : List X) where
  pub position-first : p x ≡ true → position p (x ∷ xs) ≡ Some 0
  position-first passes =
      let low : nat_lt 0 (length (x ∷ xs)) ≡ true = lt-ltb 0 (length (x ∷ xs)) (omega arith) in
      rw (passes, low) refl

  pub position-later : p x ≡ false → position p (x ∷ xs) ≡ option_map (λ i. i + 1) (position p xs)
  position-later fails =
      elim (cases_lt (position_or_len p xs) (length xs)) [
        | inl found ↦
            let low : nat_lt (1 + position_or_len p xs) (length (x ∷ xs)) ≡ true = lt-ltb (1 + position_or_len p xs) (length (x ∷ xs)) (omega arith) in
            rw (fails, low, lt-ltb (position_or_len p xs) (length xs) found) (ap (λ (i : ℕ). Some i) (omega arith))
        | inr past ↦
            let high : nat_lt (1 + position_or_len p xs) (length (x ∷ xs)) ≡ false = le-ltb (1 + position_or_len p xs) (length (x ∷ xs)) (omega arith) in
            rw (fails, high, le-ltb (position_or_len p xs) (length xs) past) refl
      ]

-- the number of words that a draw without a limit takes
abbrev pub taken_of : ℕ → ℕ → List ℕ → ℕ
taken_of bits size words = option_map_or (λ i. i + 1) (deciding_place bits size words) (length words)

-- one draw, by what the first word names
module _ (bits size word : ℕ) (words : List ℕ) where
  pub place-first : (k : ℕ) → named bits size word ≡ Some k → deciding_place bits size (word ∷ words) ≡ Some 0
  place-first k is = position-first (λ w. is_some (named bits size w)) word words (rw is refl)

  pub place-later : named bits size word ≡ None → deciding_place bits size (word ∷ words) ≡ option_map (λ i. i + 1) (deciding_place bits size words)
  place-later is = position-later (λ w. is_some (named bits size w)) word words (rw is refl)

  pub decided-first : (k : ℕ) → named bits size word ≡ Some k → decided bits size (word ∷ words) ≡ Some k
  decided-first k is = rw (place-first k is) is

  at_later : (o : Option ℕ) → option_and_then (λ i. named bits size (slice_index (word ∷ words) i)) (option_map (λ i. i + 1) o)
      ≡ option_and_then (λ i. named bits size (slice_index words i)) o
  at_later None = refl
  at_later (Some i) = let next : i + 1 ≡ suc i = omega arith in rw next refl

  pub decided-later : named bits size word ≡ None → decided bits size (word ∷ words) ≡ decided bits size words
  decided-later is = rw (place-later is) (at_later (deciding_place bits size words))

  pub taken-first : (k : ℕ) → named bits size word ≡ Some k → taken_of bits size (word ∷ words) ≡ 1
  taken-first k is = rw (place-first k is) refl

  taken_by : (o : Option ℕ) → option_map_or (λ i. i + 1) (option_map (λ i. i + 1) o) (length (word ∷ words)) ≡ 1 + option_map_or (λ i. i + 1) o (length words)
  taken_by None = omega arith
  taken_by (Some i) = omega arith

  pub taken-later : named bits size word ≡ None → taken_of bits size (word ∷ words) ≡ 1 + taken_of bits size words
  taken-later is = rw (place-later is) (taken_by (deciding_place bits size words))

-- no more words are taken than there are
pub taken-at-most : (bits size : ℕ) (words : List ℕ) → taken_of bits size words ≤ length words
taken-at-most bits size words =
    let place = position_or_len (λ word. is_some (named bits size word)) words in
    elim (cases_lt place (length words)) [
      | inl found ↦ rw (lt-ltb place (length words) found) (omega arith)
      | inr past ↦ rw (le-ltb place (length words) past) (omega arith)
    ]
