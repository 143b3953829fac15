-- Sums over lists of numbers below sizes, and the exchange of two such sums.
use Rattle.std.proofs.Common.{◌≡◌, ℕ, zero, suc, ◌+◌, ◌*◌, Bool, true, cond, List, [], ◌∷◌, refl, ◌∙◌, arith}
use Rattle.std.specs.List.{sum_by, range_with_len}
use Rattle.std.proofs.lemmas.List.Sums.{sum_by-cons}
use Rattle.nanorand_fairness.specs.InTurn.{number_lists_that}
use Rattle.nanorand_fairness.proofs.lemmas.Sums.{sum-same, sum-terms, sum-times, sum-plus, sum-constant}
use Rattle.nanorand_fairness.proofs.lemmas.deals.StepLemmas.{AreBelow}

-- the sum of f over all lists with a number below each size
abbrev pub sum_over_numbers : List ℕ → (List ℕ → ℕ) → ℕ
sum_over_numbers [] f = f []
sum_over_numbers (size ∷ sizes) f = sum_by (λ number. sum_over_numbers sizes (λ numbers. f (number ∷ numbers))) (range_with_len 0 size)

-- terms that are equal for numbers below the sizes
pub numbers-equal : (sizes : List ℕ) (f h : List ℕ → ℕ) → ((numbers : List ℕ) → AreBelow numbers sizes → f numbers ≡ h numbers)
    → sum_over_numbers sizes f ≡ sum_over_numbers sizes h
numbers-equal [] f h same = same [] tt
numbers-equal (size ∷ sizes) f h same =
    sum-same (λ number. sum_over_numbers sizes (λ numbers. f (number ∷ numbers))) (λ number. sum_over_numbers sizes (λ numbers. h (number ∷ numbers))) 0 size
    (λ number from to. numbers-equal sizes (λ numbers. f (number ∷ numbers)) (λ numbers. h (number ∷ numbers))
    (λ numbers below. same (number ∷ numbers) (omega arith, below)))

-- a count is a sum
pub count-sum : (sizes : List ℕ) (test : List ℕ → Bool) → number_lists_that sizes test ≡ sum_over_numbers sizes (λ numbers. cond (test numbers) 1 0)
count-sum [] test = refl
count-sum (size ∷ sizes) test =
    sum-terms (λ number. number_lists_that sizes (λ numbers. test (number ∷ numbers)))
    (λ number. sum_over_numbers sizes (λ numbers. cond (test (number ∷ numbers)) 1 0))
    (λ number. count-sum sizes (λ numbers. test (number ∷ numbers))) 0 size

pub numbers-constant : (sizes : List ℕ) (c : ℕ) → sum_over_numbers sizes (λ numbers. c) ≡ number_lists_that sizes (λ numbers. true) * c
numbers-constant [] c = omega arith
numbers-constant (size ∷ sizes) c =
    sum-terms (λ number. sum_over_numbers sizes (λ numbers. c))
    (λ number. number_lists_that sizes (λ numbers. true) * c) (λ number. numbers-constant sizes c) 0 size
    ∙ sum-times (λ number. number_lists_that sizes (λ numbers. true)) c 0 size

-- the exchange of two sums: over two numbers, over a number and a list, over two lists
two-sums : (g : ℕ → ℕ → ℕ) (n m : ℕ) → sum_by (λ j. sum_by (g j) (range_with_len 0 m)) (range_with_len 0 n)
    ≡ sum_by (λ k. sum_by (λ j. g j k) (range_with_len 0 n)) (range_with_len 0 m)
two-sums g n m = from 0 n
  where
    from : (first n : ℕ) → sum_by (λ j. sum_by (g j) (range_with_len 0 m)) (range_with_len first n)
        ≡ sum_by (λ k. sum_by (λ j. g j k) (range_with_len first n)) (range_with_len 0 m)
    from first zero = let none = sum-constant 0 0 m in omega (arith, none)
    from first (suc n) =
        let one = sum_by-cons (λ j. sum_by (g j) (range_with_len 0 m)) first (range_with_len (first + 1) n) in
        let each = sum-terms (λ k. sum_by (λ j. g j k) (range_with_len first (suc n))) (λ k. g first k + sum_by (λ j. g j k) (range_with_len (first + 1) n))
        (λ k. sum_by-cons (λ j. g j k) first (range_with_len (first + 1) n)) 0 m in
        let parts = sum-plus (g first) (λ k. sum_by (λ j. g j k) (range_with_len (first + 1) n)) 0 m in
        let rest = from (first + 1) n in
        omega (arith, one, each, parts, rest)

sum-in-lists : (sizes : List ℕ) (g : ℕ → List ℕ → ℕ) (m : ℕ)
    → sum_by (λ k. sum_over_numbers sizes (g k)) (range_with_len 0 m) ≡ sum_over_numbers sizes (λ numbers. sum_by (λ k. g k numbers) (range_with_len 0 m))
sum-in-lists [] g m = refl
sum-in-lists (size ∷ sizes) g m =
    two-sums (λ k number. sum_over_numbers sizes (λ numbers. g k (number ∷ numbers))) m size
    ∙ sum-terms (λ number. sum_by (λ k. sum_over_numbers sizes (λ numbers. g k (number ∷ numbers))) (range_with_len 0 m))
    (λ number. sum_over_numbers sizes (λ numbers. sum_by (λ k. g k (number ∷ numbers)) (range_with_len 0 m)))
    (λ number. sum-in-lists sizes (λ k numbers. g k (number ∷ numbers)) m) 0 size

pub lists-in-lists : (sizes others : List ℕ) (f : List ℕ → List ℕ → ℕ)
    → sum_over_numbers sizes (λ numbers. sum_over_numbers others (f numbers))
    ≡ sum_over_numbers others (λ later. sum_over_numbers sizes (λ numbers. f numbers later))
lists-in-lists [] others f = refl
lists-in-lists (size ∷ sizes) others f =
    sum-terms (λ number. sum_over_numbers sizes (λ numbers. sum_over_numbers others (f (number ∷ numbers))))
    (λ number. sum_over_numbers others (λ later. sum_over_numbers sizes (λ numbers. f (number ∷ numbers) later)))
    (λ number. lists-in-lists sizes others (λ numbers. f (number ∷ numbers))) 0 size
    ∙ sum-in-lists others (λ number later. sum_over_numbers sizes (λ numbers. f (number ∷ numbers) later)) size
