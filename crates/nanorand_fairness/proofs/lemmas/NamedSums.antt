-- Sums over all words, by what each word names.
use Rattle.std.proofs.Common.{◌≡◌, ℕ, ◌+◌, ◌*◌, ◌<◌, ◌≤◌, ◌^◌, Bool, true, false, cond, nat_eq, List, [], ◌∷◌, Option}
use Rattle.std.proofs.Common.{Some, None, is_none, refl, sym, ◌∙◌, ap, inl, inr, arith}
use Rattle.std.specs.List.{sum_by, count_by, range_with_len}
use Rattle.std.proofs.lemmas.Bool.{cases_eq, eq-eqb, ne_eqb}
use Rattle.std.proofs.lemmas.List.Sums.{sum_by-cons}
use Rattle.nanorand_core.specs.values.Runs.{IsWordWidth, named, quota, rejected, words_that}
use Rattle.nanorand_core.specs.values.Fairness.{passes, SharesWords, RunsAreFair, EventsAreFair}
use Rattle.nanorand_fairness.proofs.lemmas.Sums.{sum-same, sum-terms, sum-times, sum-plus, sum-only, sum-constant}

-- a term for the elements whose value is named, and the elements counted so far
term : (hit : Bool) (v c : ℕ) → v * (cond hit 1 0 + c) ≡ cond hit v 0 + v * c
term true v c = omega arith
term false v c = omega arith

module _ (g : ℕ → Option ℕ) (size : ℕ) (F : Option ℕ → ℕ) where
  -- the number of elements with this value
  abbrev pub counted : List ℕ → ℕ → ℕ
  counted xs k = count_by (λ x. passes (λ j. nat_eq j k) (g x)) xs

  counted-more : (x : ℕ) (xs : List ℕ) (k : ℕ) (o : Option ℕ) → g x ≡ o
      → counted (x ∷ xs) k ≡ cond (passes (λ j. nat_eq j k) o) 1 0 + counted xs k
  counted-more x xs k o is =
      sum_by-cons (λ y. cond (passes (λ j. nat_eq j k) (g y)) 1 0) x xs
      ∙ ap (λ (v : Option ℕ). cond (passes (λ j. nat_eq j k) v) 1 0 + counted xs k) is

  one_more : (x : ℕ) (xs : List ℕ) (o : Option ℕ) → g x ≡ o → ((k : ℕ) → o ≡ Some k → k < size)
      → F None * cond (is_none o) 1 0 + sum_by (λ k. F (Some k) * counted (x ∷ xs) k) (range_with_len 0 size)
      ≡ F o + sum_by (λ k. F (Some k) * counted xs k) (range_with_len 0 size)
  one_more x xs None is low =
      let same = sum-terms (λ k. F (Some k) * counted (x ∷ xs) k) (λ k. F (Some k) * counted xs k)
      (λ k. ap (λ (n : ℕ). F (Some k) * n) (counted-more x xs k None is ∙ omega arith)) 0 size in
      omega (arith, same)
  one_more x xs (Some j) is low =
      let terms = sum-terms (λ k. F (Some k) * counted (x ∷ xs) k) (λ k. cond (nat_eq j k) (F (Some k)) 0 + F (Some k) * counted xs k)
      (λ k. ap (λ (n : ℕ). F (Some k) * n) (counted-more x xs k (Some j) is) ∙ term (nat_eq j k) (F (Some k)) (counted xs k)) 0 size in
      let parts = sum-plus (λ k. cond (nat_eq j k) (F (Some k)) 0) (λ k. F (Some k) * counted xs k) 0 size in
      let one = sum-only (λ k. F (Some k)) j 0 size (omega arith) (omega (arith, low j refl)) in
      omega (arith, terms, parts, one)

  -- a sum by values is the sum over the values, each as often as it occurs
  pub sum-by_value : ((x k : ℕ) → g x ≡ Some k → k < size) → (xs : List ℕ)
      → sum_by (λ x. F (g x)) xs ≡ F None * count_by (λ x. is_none (g x)) xs + sum_by (λ k. F (Some k) * counted xs k) (range_with_len 0 size)
  sum-by_value low [] =
      let none = sum-terms (λ k. F (Some k) * counted [] k) (λ k. 0) (λ k. omega arith) 0 size in
      omega (arith, none, sum-constant 0 0 size)
  sum-by_value low (x ∷ xs) =
      let whole = sum_by-cons (λ y. F (g y)) x xs in
      let nones = ap (λ (n : ℕ). F None * n) (sum_by-cons (λ y. cond (is_none (g y)) 1 0) x xs) in
      let rest = sum-by_value low xs in
      let here = one_more x xs (g x) refl (low x) in
      omega (arith, whole, nones, rest, here)

pub same_number : (j k : ℕ) → nat_eq j k ≡ nat_eq k j
same_number j k =
    elim (cases_eq j k) [
      | inl same ↦ rw (eq-eqb j k same, eq-eqb k j (sym same)) refl
      | inr other ↦ rw (ne_eqb j k other, ne_eqb k j (λ same. other (sym same))) refl
    ]

-- exactly one number below the size is k
pub one_number : (k size : ℕ) → k < size → count_by (λ j. nat_eq j k) (range_with_len 0 size) ≡ 1
one_number k size low =
    sum-terms (λ j. cond (nat_eq j k) 1 0) (λ j. cond (nat_eq k j) 1 0) (λ j. ap (λ (b : Bool). cond b 1 0) (same_number j k)) 0 size
    ∙ sum-only (λ j. 1) k 0 size (omega arith) (omega arith)

-- the laws of one draw
module _ (runs : RunsAreFair) (events : EventsAreFair) (bits size : ℕ) (width : IsWordWidth bits) (some : 1 ≤ size) (fits : size ≤ 2 ^ bits) where
  shares : SharesWords bits size
  shares = runs bits size width some fits

  pub named-below : (word k : ℕ) → named bits size word ≡ Some k → k < size
  named-below word k is = ((shares.naming word k).0 is).below

  words_of : (k : ℕ) → k < size → count_by (λ word. passes (λ j. nat_eq j k) (named bits size word)) (range_with_len 0 (2 ^ bits)) ≡ quota bits size
  unfolding words_that
  words_of k low = events bits size (λ j. nat_eq j k) width some fits ∙ ap (λ (n : ℕ). n * quota bits size) (one_number k size low) ∙ omega arith

  abbrev unnamed : ℕ
  unnamed = count_by (λ word. is_none (named bits size word)) (range_with_len 0 (2 ^ bits))

  by_words : (F : Option ℕ → ℕ) → sum_by (λ word. F (named bits size word)) (range_with_len 0 (2 ^ bits))
      ≡ F None * unnamed + sum_by (λ k. F (Some k)) (range_with_len 0 size) * quota bits size
  by_words F =
      sum-by_value (named bits size) size F named-below (range_with_len 0 (2 ^ bits))
      ∙ ap (λ (n : ℕ). F None * unnamed + n)
      (sum-same (λ k. F (Some k) * counted (named bits size) size F (range_with_len 0 (2 ^ bits)) k) (λ k. F (Some k) * quota bits size) 0 size
      (λ k from to. ap (λ (n : ℕ). F (Some k) * n) (words_of k (omega arith)))
      ∙ sum-times (λ k. F (Some k)) (quota bits size) 0 size)

  all_unnamed : unnamed ≡ rejected bits size
  all_unnamed =
      let all = by_words (λ o. 1) in
      let words = sum-constant 1 0 (2 ^ bits) in
      let numbers = ap (λ (n : ℕ). n * quota bits size) (sum-constant 1 0 size) in
      omega (arith, all, words, numbers, shares.all)

  -- the sum of F over what all words name
  pub sum-named : (F : Option ℕ → ℕ) → sum_by (λ word. F (named bits size word)) (range_with_len 0 (2 ^ bits))
      ≡ rejected bits size * F None + quota bits size * sum_by (λ k. F (Some k)) (range_with_len 0 size)
  sum-named F =
      let all = by_words F in
      let none = ap (λ (n : ℕ). F None * n) all_unnamed in
      omega (arith, all, none)
