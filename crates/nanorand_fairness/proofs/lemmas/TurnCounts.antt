-- The number of lists of words that draw a list of numbers. It is the same for each list of
-- numbers, which is proved by cases of what the first word names.
use Rattle.std.proofs.Common.{◌≡◌, ℕ, zero, suc, ◌+◌, ◌*◌, ◌<◌, ◌≤◌, ◌^◌, Bool, cond, nat_eq, List, [], ◌∷◌, length, Option, Some, None, refl, ◌∙◌, ap, arith}
use Rattle.std.specs.Prelude.{◌&&◌}
use Rattle.std.specs.List.{sum_by, range_with_len}
use Rattle.std.proofs.Math.Nat.{pow-zero, mul_comm}
use Rattle.std.proofs.Math.Dec.{eqb-suc-suc, eqb-zero-suc}
use Rattle.std.proofs.lemmas.List.Elements.{All-head, All-tail}
use Rattle.nanorand_core.specs.values.Runs.{IsWordWidth, named, quota, rejected}
use Rattle.nanorand_core.specs.values.Draws.{word_limit}
use Rattle.nanorand_core.specs.values.Fairness.{RunsAreFair, EventsAreFair}
use Rattle.nanorand_fairness.specs.Lists.{sum_over_lists, lists_that}
use Rattle.nanorand_fairness.specs.InTurn.{AreSizes, numbers_from, number_lists_that, quotas}
use Rattle.nanorand_fairness.proofs.lemmas.Sums.{sum-terms, sum-times}
use Rattle.nanorand_fairness.proofs.lemmas.NamedSums.{sum-named}
use Rattle.nanorand_fairness.proofs.lemmas.DrawLists.{lists-same, lists-constant}

-- the number of lists of n words that draw one given list of numbers
abbrev pub lists_of_each : (bits n : ℕ) → List ℕ → ℕ → ℕ
lists_of_each bits n [] left = (2 ^ bits) ^ n
lists_of_each bits n (size ∷ sizes) zero = 0
lists_of_each bits zero (size ∷ sizes) (suc left) = 0
lists_of_each bits (suc n) (size ∷ sizes) (suc left) =
    rejected bits size * lists_of_each bits n (size ∷ sizes) left + quota bits size * lists_of_each bits n sizes word_limit

-- with fewer words than sizes, there is no number for each size
none_of_each : (bits n : ℕ) (sizes : List ℕ) (left : ℕ) → n < length sizes → lists_of_each bits n sizes left ≡ 0
none_of_each bits n [] left few = absurd (omega arith)
none_of_each bits n (size ∷ sizes) zero few = refl
none_of_each bits zero (size ∷ sizes) (suc left) few = refl
none_of_each bits (suc n) (size ∷ sizes) (suc left) few =
    let again = none_of_each bits n (size ∷ sizes) left (omega arith) in
    let next = none_of_each bits n sizes word_limit (omega arith) in
    rw (again, next) (omega arith)

-- with as many words as sizes, none is rejected (later draws may take 128 words, so 127 more)
pub quotas_of_each : (bits : ℕ) (sizes : List ℕ) (left : ℕ) → lists_of_each bits (length sizes) sizes (suc left) ≡ quotas bits sizes
quotas_of_each bits [] left = pow-zero (2 ^ bits)
quotas_of_each bits (size ∷ sizes) left =
    let again = none_of_each bits (length sizes) (size ∷ sizes) left (omega arith) in
    let next = quotas_of_each bits sizes 127 in
    rw (again, next) (omega arith)

-- whether there is a number for each size, and they pass the test
abbrev all_drawn : List ℕ → (List ℕ → Bool) → List ℕ → Bool
all_drawn sizes test numbers = nat_eq (length numbers) (length sizes) && test numbers

module _ (runs : RunsAreFair) (events : EventsAreFair) (bits : ℕ) (width : IsWordWidth bits) where
  -- the number of lists of n words that draw numbers that pass the test
  abbrev drawn_lists : ℕ → List ℕ → ℕ → (List ℕ → Bool) → ℕ
  drawn_lists n sizes left test = lists_that bits n (λ words. all_drawn sizes test (numbers_from bits sizes left words))

  module _ (n size : ℕ) (sizes : List ℕ) (left : ℕ) (test : List ℕ → Bool) where
    -- what is drawn after the first word, for each case of what it names
    abbrev after : Option ℕ → ℕ
    after None = drawn_lists n (size ∷ sizes) left test
    after (Some number) = drawn_lists n sizes word_limit (λ numbers. test (number ∷ numbers))

    -- the numbers after the first
    abbrev later : List ℕ → List ℕ
    later words = numbers_from bits sizes word_limit words

    after_word : (word : ℕ) (o : Option ℕ) → named bits size word ≡ o
        → lists_that bits n (λ words. all_drawn (size ∷ sizes) test (numbers_from bits (size ∷ sizes) (suc left) (word ∷ words))) ≡ after o
    after_word word None is = rw is refl
    after_word word (Some number) is =
        rw is
        (lists-same bits n (λ words. cond (nat_eq (suc (length (later words))) (suc (length sizes)) && test (number ∷ later words)) 1 0)
        (λ words. cond (all_drawn sizes (λ numbers. test (number ∷ numbers)) (later words)) 1 0)
        (λ words. rw (eqb-suc-suc (length (later words)) (length sizes)) refl))

    by_first_word : 1 ≤ size → size ≤ 2 ^ bits → drawn_lists (suc n) (size ∷ sizes) (suc left) test
        ≡ rejected bits size * drawn_lists n (size ∷ sizes) left test
        + quota bits size * sum_by (λ number. drawn_lists n sizes word_limit (λ numbers. test (number ∷ numbers))) (range_with_len 0 size)
    unfolding sum_over_lists
    by_first_word some fits =
        sum-terms (λ word. lists_that bits n (λ words. all_drawn (size ∷ sizes) test (numbers_from bits (size ∷ sizes) (suc left) (word ∷ words))))
        (λ word. after (named bits size word)) (λ word. after_word word (named bits size word) refl) 0 (2 ^ bits)
        ∙ sum-named runs events bits size width some fits after

  -- the number of lists of words that pass a test is the number of lists of numbers that pass it,
  -- times the number of lists of words for each of these
  pub equally_many : (n : ℕ) (sizes : List ℕ) (left : ℕ) (test : List ℕ → Bool) → AreSizes bits sizes
      → drawn_lists n sizes left test ≡ number_lists_that sizes test * lists_of_each bits n sizes left
  unfolding sum_over_lists
  equally_many n [] left test are = lists-constant bits n (cond (test []) 1 0) ∙ mul_comm ((2 ^ bits) ^ n) (cond (test []) 1 0)
  equally_many n (size ∷ sizes) zero test are =
      let none = lists-constant bits n 0 in
      rw (eqb-zero-suc (length sizes)) (omega (arith, none))
  equally_many zero (size ∷ sizes) (suc left) test are = rw (eqb-zero-suc (length sizes)) (omega arith)
  equally_many (suc n) (size ∷ sizes) (suc left) test are =
      let is = All-head (λ size. (1 ≤ size) × (size ≤ 2 ^ bits)) size sizes are in
      let rest = All-tail (λ size. (1 ≤ size) × (size ≤ 2 ^ bits)) size sizes are in
      let each = lists_of_each bits n sizes word_limit in
      let first = by_first_word n size sizes left test is.0 is.1 in
      let again = ap (λ (u : ℕ). rejected bits size * u) (equally_many n (size ∷ sizes) left test are) in
      let next = ap (λ (u : ℕ). quota bits size * u)
      (sum-terms (λ number. drawn_lists n sizes word_limit (λ numbers. test (number ∷ numbers)))
      (λ number. number_lists_that sizes (λ numbers. test (number ∷ numbers)) * each)
      (λ number. equally_many n sizes word_limit (λ numbers. test (number ∷ numbers)) rest) 0 size
      ∙ sum-times (λ number. number_lists_that sizes (λ numbers. test (number ∷ numbers))) each 0 size) in
      omega (arith, first, again, next)
