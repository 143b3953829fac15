-- Lists of words, and of numbers, that pass equal tests.
use Rattle.std.proofs.Common.{◌≡◌, ℕ, ◌&&◌, ◌==◌, Bool, cond, List, [], ◌∷◌, length, ap, arith}
use Rattle.nanorand_fairness.specs.InTurn.{numbers_in_turn, number_lists_that, word_lists_that}
use Rattle.nanorand_fairness.proofs.lemmas.Sums.{sum-same}
use Rattle.nanorand_fairness.proofs.lemmas.DrawLists.{lists-same}
use Rattle.nanorand_fairness.proofs.lemmas.deals.StepLemmas.{AreBelow}

pub test-same : (bits n : ℕ) (sizes : List ℕ) (test other : List ℕ → Bool) → ((numbers : List ℕ) → test numbers ≡ other numbers)
    → word_lists_that bits n sizes test ≡ word_lists_that bits n sizes other
test-same bits n sizes test other same =
    lists-same bits n (λ words. let numbers = numbers_in_turn bits sizes words in cond (length numbers == length sizes && test numbers) 1 0)
    (λ words. let numbers = numbers_in_turn bits sizes words in cond (length numbers == length sizes && other numbers) 1 0)
    (λ words. let numbers = numbers_in_turn bits sizes words in
    ap (λ (b : Bool). cond (length numbers == length sizes && b) 1 0) (same numbers))

-- tests that are equal on numbers below the sizes
pub numbers-same : (sizes : List ℕ) (test other : List ℕ → Bool) → ((numbers : List ℕ) → AreBelow numbers sizes → test numbers ≡ other numbers)
    → number_lists_that sizes test ≡ number_lists_that sizes other
numbers-same [] test other same = ap (λ (b : Bool). cond b 1 0) (same [] tt)
numbers-same (size ∷ sizes) test other same =
    sum-same (λ number. number_lists_that sizes (λ numbers. test (number ∷ numbers)))
    (λ number. number_lists_that sizes (λ numbers. other (number ∷ numbers))) 0 size
    (λ number from to. numbers-same sizes (λ numbers. test (number ∷ numbers)) (λ numbers. other (number ∷ numbers))
    (λ numbers below. same (number ∷ numbers) (omega arith, below)))
