-- Sums and counts over lists of words of which only the first m words matter, since a draw ends
-- after m words.
use Rattle.std.proofs.Common.{◌≡◌, ℕ, zero, suc, ◌+◌, ◌-◌, ◌*◌, ◌<◌, ◌≤◌, ◌^◌, Bool, cond, List, [], ◌∷◌, min, take, is_none, refl, ◌∙◌, ap, arith}
use Rattle.std.specs.List.{count_by, range_with_len}
use Rattle.std.proofs.Math.Nat.{pow-zero, one-le-pow, mul-le-mul_right, mul_comm}
use Rattle.std.proofs.lemmas.Nat.{pow-add, pow_pos}
use Rattle.nanorand_core.specs.values.Runs.{IsWordWidth, rejected}
use Rattle.nanorand_core.specs.values.Draws.{decided}
use Rattle.nanorand_core.specs.values.Fairness.{passes, RunsAreFair, EventsAreFair}
use Rattle.nanorand_fairness.specs.Lists.{sum_over_lists, lists_that}
use Rattle.nanorand_fairness.proofs.lemmas.Sums.{sum-terms, sum-times}
use Rattle.nanorand_fairness.proofs.lemmas.DrawLists.{taken_of, lists-constant}
use Rattle.nanorand_fairness.proofs.lemmas.WordCounts.{undecided, taken_few, event_lists}

-- the other k words are arbitrary
first_words : (bits n m t k : ℕ) (f : List ℕ → ℕ) → t ≡ min n m → n ≡ t + k
    → sum_over_lists bits n (λ words. f (take m words)) ≡ sum_over_lists bits t f * (2 ^ bits) ^ k
unfolding sum_over_lists
first_words bits n zero zero k f first all =
    lists-constant bits n (f []) ∙ mul_comm ((2 ^ bits) ^ n) (f []) ∙ ap (λ (e : ℕ). f [] * (2 ^ bits) ^ e) (omega arith)
first_words bits n zero (suc t) k f first all = absurd (omega arith)
first_words bits zero (suc m) zero zero f first all = let one = pow-zero (2 ^ bits) in rw one (omega arith)
first_words bits zero (suc m) zero (suc k) f first all = absurd (omega arith)
first_words bits zero (suc m) (suc t) k f first all = absurd (omega arith)
first_words bits (suc n) (suc m) zero k f first all = absurd (omega arith)
first_words bits (suc n) (suc m) (suc t) k f first all =
    sum-terms (λ word. sum_over_lists bits n (λ words. f (word ∷ take m words))) (λ word. sum_over_lists bits t (λ words. f (word ∷ words)) * (2 ^ bits) ^ k)
    (λ word. first_words bits n m t k (λ words. f (word ∷ words)) (omega arith) (omega arith)) 0 (2 ^ bits)
    ∙ sum-times (λ word. sum_over_lists bits t (λ words. f (word ∷ words))) ((2 ^ bits) ^ k) 0 (2 ^ bits)

module _ (bits n m : ℕ) where
  -- the number of lists of the other words
  abbrev others : ℕ
  others = (2 ^ bits) ^ (n - min n m)

  sum-first : (f : List ℕ → ℕ) → sum_over_lists bits n (λ words. f (take m words)) ≡ sum_over_lists bits (min n m) f * others
  sum-first f = first_words bits n m (min n m) (n - min n m) f refl (omega arith)

  module _ (runs : RunsAreFair) (events : EventsAreFair) (size : ℕ) (width : IsWordWidth bits) (some : 1 ≤ size) (fits : size ≤ 2 ^ bits) where
    pub first-undecided : lists_that bits n (λ words. is_none (decided bits size (take m words))) ≡ rejected bits size ^ min n m * others
    first-undecided =
        sum-first (λ words. cond (is_none (decided bits size words)) 1 0)
        ∙ ap (λ (u : ℕ). u * others) (undecided runs events bits size width some fits (min n m))

    pub first-few : sum_over_lists bits n (λ words. taken_of bits size (take m words)) < 2 * (2 ^ bits) ^ n
    first-few =
        let all = sum-first (taken_of bits size) in
        let few : sum_over_lists bits (min n m) (taken_of bits size) + 1 ≤ 2 * (2 ^ bits) ^ min n m =
        omega (arith, taken_few runs events bits size width some fits (min n m)) in
        let more = mul-le-mul_right others few in
        let any : 1 ≤ others = one-le-pow (n - min n m) (2 ^ bits) (pow_pos bits) in
        let whole = pow-add (2 ^ bits) (min n m) (n - min n m) in
        let together : min n m + (n - min n m) ≡ n = omega arith in
        let power = ap (λ (e : ℕ). (2 ^ bits) ^ e) together in
        omega (arith, all, more, any, whole, power)

    pub first-events : (test one : ℕ → Bool) → count_by one (range_with_len 0 size) ≡ 1
        → lists_that bits n (λ words. passes test (decided bits size (take m words)))
        ≡ count_by test (range_with_len 0 size) * lists_that bits n (λ words. passes one (decided bits size (take m words)))
    first-events test one single =
        let left = sum-first (λ words. cond (passes test (decided bits size words)) 1 0) in
        let right = ap (λ (u : ℕ). count_by test (range_with_len 0 size) * u) (sum-first (λ words. cond (passes one (decided bits size words)) 1 0)) in
        let same = ap (λ (u : ℕ). u * others) (event_lists runs events bits size width some fits test one single (min n m)) in
        omega (arith, left, right, same)
