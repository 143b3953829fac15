-- The words of an event: those that name a number that passes a test.
use Rattle.std.proofs.Common.{◌≡◌, ℕ, zero, suc, ◌+◌, ◌*◌, ◌^◌, ◌<◌, ◌&&◌, Bool, true, false, cond, List, Option, Some}
use Rattle.std.proofs.Common.{None, nat_lt, nat_eq, refl, sym, ◌∙◌, ap, inl, inr, arith, zero-add}
use Rattle.std.specs.List.{range_with_len, count_by}
use Rattle.std.proofs.lemmas.Bool.{cases_Bool, lt-ltb, eqb-true, eq-eqb, false_from_ne_true, false≢true}
use Rattle.std.proofs.lemmas.Bool.Decides.{nat_tests}
use Rattle.nanorand_core.specs.values.Runs.{named, quota, is_in_run, words_that}
use Rattle.nanorand_core.specs.values.Fairness.{SharesWords, passes}
use Rattle.nanorand_core.proofs.lemmas.ranges.CountLemmas.{count_by-same, count_by-add, count_by-none, count_by-last}
use Rattle.nanorand_core.proofs.lemmas.ranges.RunLemmas.{in_run-Names, Names-in_run}

-- the named number is k
abbrev is_answer : ℕ → Option ℕ → Bool
is_answer k (Some j) = nat_eq j k
is_answer k None = false

-- the named number is below n and passes
abbrev is_early : (ℕ → Bool) → ℕ → Option ℕ → Bool
is_early p n (Some k) = nat_lt k n && p k
is_early p n None = false

early_none : (p : ℕ → Bool) (answer : Option ℕ) → is_early p 0 answer ≡ false
early_none p (Some k) = grind (arith, nat_tests)
early_none p None = refl

early_more : (p : ℕ → Bool) (n : ℕ) → p n ≡ true → (answer : Option ℕ)
    → cond (is_early p (suc n) answer) 1 0 ≡ cond (is_early p n answer) 1 0 + cond (is_answer n answer) 1 0
early_more p n hit (Some k) = grind (arith, nat_tests)
early_more p n hit None = refl

early_same : (p : ℕ → Bool) (n : ℕ) → p n ≡ false → (answer : Option ℕ) → is_early p (suc n) answer ≡ is_early p n answer
early_same p n miss (Some k) = grind (arith, nat_tests)
early_same p n miss None = refl

module _ (names : ℕ → Option ℕ) (words : List ℕ) (share : ℕ) (p : ℕ → Bool) where
  count-early : (n : ℕ) → ((k : ℕ) → k < n → count_by (λ w. is_answer k (names w)) words ≡ share)
      → count_by (λ w. is_early p n (names w)) words ≡ count_by p (range_with_len 0 n) * share
  count-early zero each = count_by-none (λ w. is_early p 0 (names w)) (λ w. early_none p (names w)) words ∙ omega arith
  count-early (suc n) each =
      let rest : count_by (λ w. is_early p n (names w)) words ≡ count_by p (range_with_len 0 n) * share = count-early n (λ k low. each k (omega arith)) in
      let one : count_by (λ w. is_answer n (names w)) words ≡ share = each n (omega arith) in
      let more : count_by p (range_with_len 0 (suc n)) ≡ count_by p (range_with_len 0 n) + cond (p n) 1 0 =
      count_by-last p 0 n ∙ ap (λ (k : ℕ). count_by p (range_with_len 0 n) + cond (p k) 1 0) (zero-add n) in
      elim (cases_Bool (p n)) [
        | inl hit ↦
            let both = count_by-add (λ w. is_early p n (names w)) (λ w. is_answer n (names w))
            (λ w. is_early p (suc n) (names w)) (λ w. early_more p n hit (names w)) words in
            let grown = rw hit at more in
            both ∙ omega (arith, rest, one, ap (λ (m : ℕ). m * share) grown)
        | inr miss ↦
            let grown = rw miss at more in
            count_by-same (λ w. is_early p (suc n) (names w)) (λ w. is_early p n (names w)) (λ w. early_same p n miss (names w)) words
            ∙ rest ∙ omega (arith, ap (λ (m : ℕ). m * share) grown)
      ]

-- a number that a word names is below the size
passed : (p : ℕ → Bool) (size : ℕ) (answer : Option ℕ) → ((k : ℕ) → answer ≡ Some k → k < size) → passes p answer ≡ is_early p size answer
passed p size (Some k) below = let low : k < size = below k refl in rw (lt-ltb k size low) refl
passed p size None below = refl

answered : (k : ℕ) (answer : Option ℕ) → is_answer k answer ≡ true → answer ≡ Some k
answered k (Some j) is = ap Some (eqb-true j k is)
answered k None is = cc

module _ (bits size : ℕ) (fair : SharesWords bits size) where
  answer_in_run : (word k : ℕ) → k < size → is_answer k (named bits size word) ≡ is_in_run bits size word k
  answer_in_run word k below =
      elim (cases_Bool (is_in_run bits size word k)) [
        | inl hit ↦
            let is = (fair.naming word k).1 (in_run-Names bits size word k below hit) in
            rw (is, hit) (eq-eqb k k refl)
        | inr miss ↦
            false_from_ne_true _ (λ answers.
            let names = (fair.naming word k).0 (answered k (named bits size word) answers) in
            false≢true (sym miss ∙ Names-in_run bits size word k names)) ∙ sym miss
      ]

pub event_words : (bits size : ℕ) (p : ℕ → Bool) → SharesWords bits size
    → words_that bits (λ word. passes p (named bits size word)) ≡ count_by p (range_with_len 0 size) * quota bits size
unfolding words_that
event_words bits size p fair =
    let words = range_with_len 0 (2 ^ bits) in
    count_by-same (λ w. passes p (named bits size w)) (λ w. is_early p size (named bits size w))
    (λ w. passed p size (named bits size w) (λ k is. ((fair.naming w k).0 is).below)) words
    ∙ count-early (named bits size) words (quota bits size) p size
    (λ k low.
    count_by-same (λ w. is_answer k (named bits size w)) (λ w. is_in_run bits size w k) (λ w. answer_in_run bits size fair w k low) words
    ∙ fair.counted k low)
