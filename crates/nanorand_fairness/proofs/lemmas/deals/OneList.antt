-- A test that exactly one list of numbers passes.
use Rattle.std.proofs.Common.{◌≡◌, ◌≢◌, ℕ, Bool, true, false, cond, nat_eq, List, [], ◌∷◌, refl, sym, ◌∙◌, ap, inl, inr, arith}
use Rattle.std.proofs.lemmas.Bool.{cases_eq, eq-eqb, ne_eqb}
use Rattle.nanorand_fairness.specs.InTurn.{number_lists_that}
use Rattle.nanorand_fairness.proofs.lemmas.Sums.{sum-same, sum-only, sum-constant}
use Rattle.nanorand_fairness.proofs.lemmas.deals.StepLemmas.{AreBelow}

pub no_list : (sizes : List ℕ) (test : List ℕ → Bool) → ((numbers : List ℕ) → AreBelow numbers sizes → test numbers ≡ false)
    → number_lists_that sizes test ≡ 0
no_list [] test fails = rw (fails [] tt) refl
no_list (size ∷ sizes) test fails =
    sum-same (λ number. number_lists_that sizes (λ numbers. test (number ∷ numbers))) (λ number. 0) 0 size
    (λ number from to. no_list sizes (λ numbers. test (number ∷ numbers)) (λ numbers below. fails (number ∷ numbers) (omega arith, below)))
    ∙ sum-constant 0 0 size ∙ omega arith

-- the tail of another list
abbrev pub tail : List ℕ → List ℕ
tail [] = []
tail (x ∷ xs) = xs

abbrev pub head : List ℕ → ℕ
head [] = 0
head (x ∷ xs) = x

pub one_list : (sizes alone : List ℕ) (test : List ℕ → Bool) → AreBelow alone sizes
    → test alone ≡ true → ((numbers : List ℕ) → AreBelow numbers sizes → (numbers ≢ alone) → test numbers ≡ false)
    → number_lists_that sizes test ≡ 1
one_list [] [] test below hit miss = rw hit refl
one_list [] (t ∷ ts) test below hit miss = absurd below
one_list (size ∷ sizes) [] test below hit miss = absurd below
one_list (size ∷ sizes) (t ∷ ts) test below hit miss =
    sum-same (λ number. number_lists_that sizes (λ numbers. test (number ∷ numbers))) (λ number. cond (nat_eq t number) 1 0) 0 size
    (λ number from to. elim (cases_eq t number) [
      | inl same ↦ rw (eq-eqb t number same)
          (one_list sizes ts (λ numbers. test (number ∷ numbers)) below.1 (ap (λ (k : ℕ). test (k ∷ ts)) (sym same) ∙ hit)
          (λ numbers within differ. miss (number ∷ numbers) (omega arith, within) (λ equal. differ (ap tail equal))))
      | inr other ↦ rw (ne_eqb t number other)
          (no_list sizes (λ numbers. test (number ∷ numbers))
          (λ numbers within. miss (number ∷ numbers) (omega arith, within)
          (λ equal. other (sym (ap head equal)))))
    ])
    ∙ sum-only (λ number. 1) t 0 size (omega arith) (omega (arith, below.0))
