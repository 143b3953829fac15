-- How often a number occurs in a list, and what follows for permutations.
use Rattle.std.proofs.Common.{◌≡◌, ℕ, zero, suc, ◌+◌, ◌<◌, ◌≤◌, ◌==◌, ◌⊎◌, List, [], ◌∷◌, ◌++◌, length, IsPermutation}
use Rattle.std.proofs.Common.{refl, sym, ◌∙◌, ap, subst, arith, inl, inr, cond}
use Rattle.std.specs.List.{range_with_len}
use Rattle.std.proofs.lemmas.Bool.{cases_eq, cases_lt, ne_eqb, eq-eqb}
use Rattle.std.proofs.lemmas.List.{length-append}
use Rattle.std.proofs.lemmas.List.FromFn.{length-range_with_len}
use Rattle.std.proofs.lemmas.List.Sums.{sum_by-cons}
use Rattle.std.proofs.lemmas.List.Sorted.{IsPermutation-refl, IsPermutation-sym, IsPermutation-trans}
use Rattle.std.proofs.lemmas.List.Sorted.{IsPermutation-cons, IsPermutation-middle, sum_by-IsPermutation}
use Rattle.nanorand_core.specs.shuffles.Arrangements.{rising, IsArrangement, copies, HoldEquallyOften, HoldsEachOnce}

-- a permutation holds each number the same number of times
pub copies-permutation : (number : ℕ) (xs ys : List ℕ) → IsPermutation xs ys → copies number ys ≡ copies number xs
copies-permutation number xs ys order = sum_by-IsPermutation (λ other. cond (other == number) 1 0) xs ys order

copies-cons : (number x : ℕ) (xs : List ℕ) → copies number (x ∷ xs) ≡ cond (x == number) 1 0 + copies number xs
copies-cons number x xs = sum_by-cons (λ other. cond (other == number) 1 0) x xs

copies-same : (number x : ℕ) (xs : List ℕ) → x ≡ number → copies number (x ∷ xs) ≡ suc (copies number xs)
copies-same number x xs same = copies-cons number x xs ∙ rw (eq-eqb x number same) omega arith

copies-other : (number x : ℕ) (xs : List ℕ) → ((x ≡ number) → ⊥) → copies number (x ∷ xs) ≡ copies number xs
copies-other number x xs differ = copies-cons number x xs ∙ rw (ne_eqb x number differ) omega arith

-- a number below a, or at least a + n, does not occur in the n numbers from a on
pub copies-outside : (number a n : ℕ) → (number < a) ⊎ (a + n ≤ number) → copies number (range_with_len a n) ≡ 0
copies-outside number a zero outside = refl
copies-outside number a (suc n) outside =
    elim outside [
      | inl before ↦
          copies-other number a (range_with_len (a + 1) n) (λ same. absurd (omega arith))
          ∙ copies-outside number (a + 1) n (inl (omega arith))
      | inr behind ↦
          copies-other number a (range_with_len (a + 1) n) (λ same. absurd (omega arith))
          ∙ copies-outside number (a + 1) n (inr (omega arith))
    ]

-- each of the n numbers from a on occurs once
pub copies-inside : (number a n : ℕ) → a ≤ number → number < a + n → copies number (range_with_len a n) ≡ 1
copies-inside number a zero from below = absurd (omega arith)
copies-inside number a (suc n) from below =
    elim (cases_eq a number) [
      | inl same ↦
          copies-same number a (range_with_len (a + 1) n) same
          ∙ ap suc (copies-outside number (a + 1) n (inl (omega arith)))
      | inr differ ↦
          copies-other number a (range_with_len (a + 1) n) differ
          ∙ copies-inside number (a + 1) n (omega arith) (omega arith)
    ]

-- a list split at the first copy of a number: what comes before it and after it
pub record Parted (number : ℕ) (xs : List ℕ) : Type 0 where
  pub before : List ℕ
  pub behind : List ℕ
  pub is : xs ≡ before ++ number ∷ behind

parted : (number : ℕ) (xs : List ℕ) → 0 < copies number xs → Parted number xs
parted number [] some = absurd (omega arith)
parted number (x ∷ xs) some =
    elim (cases_eq x number) [
      | inl same ↦ record { before = []; behind = xs; is = ap (λ y. y ∷ xs) same }
      | inr differ ↦
          let rest = parted number xs (omega (arith, some, copies-other number x xs differ)) in
          record { before = x ∷ rest.before; behind = rest.behind; is = ap (λ ys. x ∷ ys) rest.is }
    ]

-- a list that is not longer than another, and holds each number at least as often, is a permutation
-- of it
covered : (xs ys : List ℕ) → length ys ≤ length xs → ((number : ℕ) → copies number xs ≤ copies number ys) → IsPermutation xs ys
covered [] [] short more = IsPermutation-refl []
covered [] (y ∷ ys) short more = absurd (omega arith)
covered (x ∷ xs) ys short more =
    let some : 0 < copies x ys = omega (arith, more x, copies-same x x xs refl) in
    let parts = parted x ys some in
    let rest = parts.before ++ parts.behind in
    let front : IsPermutation ys (x ∷ rest) =
    subst (λ zs. IsPermutation zs (x ∷ rest)) (sym parts.is) (IsPermutation-middle parts.before x parts.behind) in
    let size = length-append parts.before (x ∷ parts.behind) in
    let left = length-append parts.before parts.behind in
    let long : length ys ≡ length (parts.before ++ x ∷ parts.behind) = ap length parts.is in
    let fewer : (number : ℕ) → copies number xs ≤ copies number rest =
    λ number.
    let moved = copies-permutation number ys (x ∷ rest) front in
    omega (arith, more number, moved, copies-cons number x xs, copies-cons number x rest) in
    IsPermutation-trans (x ∷ xs) (x ∷ rest) ys
    (IsPermutation-cons x xs rest (covered xs rest (omega arith) fewer))
    (IsPermutation-sym ys (x ∷ rest) front)

pub permutation-copies : (xs ys : List ℕ) → IsPermutation xs ys → HoldEquallyOften xs ys
permutation-copies xs ys order number = sym (copies-permutation number xs ys order)

pub permutation_by_copies : (xs ys : List ℕ) → HoldEquallyOften xs ys → IsPermutation xs ys
permutation_by_copies xs ys equally =
    elim (cases_lt (length xs) (length ys)) [
      | inl shorter ↦ IsPermutation-sym ys xs (covered ys xs (omega arith) (λ number. omega (arith, equally number)))
      | inr longer ↦ covered xs ys (omega arith) (λ number. omega (arith, equally number))
    ]

pub arrangement-copies : (order : List ℕ) → IsArrangement order → HoldsEachOnce (length order) order
arrangement-copies order arrangement number below =
    copies-permutation number (rising (length order)) order arrangement
    ∙ copies-inside number 0 (length order) (omega arith) (omega arith)

pub arrangement_by_copies : (order : List ℕ) → HoldsEachOnce (length order) order → IsArrangement order
arrangement_by_copies order once =
    covered (rising (length order)) order (omega (arith, length-range_with_len 0 (length order)))
    (λ number. elim (cases_lt number (length order)) [
      | inl below ↦ omega (arith, copies-inside number 0 (length order) (omega arith) (omega arith), once number below)
      | inr behind ↦ omega (arith, copies-outside number 0 (length order) (inr (omega arith)))
    ])
