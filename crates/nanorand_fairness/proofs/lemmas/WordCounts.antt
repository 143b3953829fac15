-- The number of lists that leave a draw undecided, the number of words that draws take, and the
-- number of lists that decide an event.
use Rattle.std.proofs.Common.{◌≡◌, ℕ, zero, suc, ◌+◌, ◌*◌, ◌<◌, ◌≤◌, ◌^◌, Bool, cond, List, ◌∷◌, Option, Some, None, is_none, refl, sym, ◌∙◌, ap, arith}
use Rattle.std.specs.List.{sum_by, count_by, range_with_len}
use Rattle.std.proofs.Math.Nat.{pow-zero, pow-suc, one-le-pow, mul-le-mul_left, mul-le-mul_right}
use Rattle.std.proofs.lemmas.Nat.{pow_pos}
use Rattle.nanorand_core.specs.values.Runs.{IsWordWidth, named, quota, rejected}
use Rattle.nanorand_core.specs.values.Draws.{decided}
use Rattle.nanorand_core.specs.values.Fairness.{passes, RunsAreFair, EventsAreFair}
use Rattle.nanorand_fairness.specs.Lists.{sum_over_lists, lists_that}
use Rattle.nanorand_fairness.proofs.lemmas.Sums.{sum-terms, sum-times, sum-constant}
use Rattle.nanorand_fairness.proofs.lemmas.NamedSums.{sum-named}
use Rattle.nanorand_fairness.proofs.lemmas.DrawLists.{lists-same, lists-constant, lists-plus, taken_of, decided-first, decided-later, taken-first, taken-later}

module _ (runs : RunsAreFair) (events : EventsAreFair) (bits size : ℕ) (width : IsWordWidth bits) (some : 1 ≤ size) (fits : size ≤ 2 ^ bits) where
  -- what the first word names determines the value for the rest
  by_first : (n : ℕ) (f : List ℕ → ℕ) (F : Option ℕ → ℕ)
      → ((word : ℕ) (o : Option ℕ) → named bits size word ≡ o → sum_over_lists bits n (λ words. f (word ∷ words)) ≡ F o)
      → sum_over_lists bits (suc n) f ≡ rejected bits size * F None + quota bits size * sum_by (λ k. F (Some k)) (range_with_len 0 size)
  unfolding sum_over_lists
  by_first n f F is =
      sum-terms (λ word. sum_over_lists bits n (λ words. f (word ∷ words))) (λ word. F (named bits size word))
      (λ word. is word (named bits size word) refl) 0 (2 ^ bits)
      ∙ sum-named runs events bits size width some fits F

  -- undecided lists
  abbrev open_after : ℕ → Option ℕ → ℕ
  open_after n None = lists_that bits n (λ words. is_none (decided bits size words))
  open_after n (Some k) = 0

  still_open : (n word : ℕ) (o : Option ℕ) → named bits size word ≡ o
      → sum_over_lists bits n (λ words. cond (is_none (decided bits size (word ∷ words))) 1 0) ≡ open_after n o
  still_open n word None is =
      lists-same bits n (λ words. cond (is_none (decided bits size (word ∷ words))) 1 0) (λ words. cond (is_none (decided bits size words)) 1 0)
      (λ words. rw (decided-later bits size word words is) refl)
  still_open n word (Some k) is =
      lists-same bits n (λ words. cond (is_none (decided bits size (word ∷ words))) 1 0) (λ words. 0)
      (λ words. rw (decided-first bits size word words k is) refl) ∙ lists-constant bits n 0 ∙ omega arith

  pub undecided : (n : ℕ) → lists_that bits n (λ words. is_none (decided bits size words)) ≡ rejected bits size ^ n
  unfolding sum_over_lists
  undecided zero = sym (pow-zero (rejected bits size))
  undecided (suc n) =
      let whole = by_first n (λ words. cond (is_none (decided bits size words)) 1 0) (open_after n) (still_open n) in
      let none = sum-constant 0 0 size in
      let rest = ap (λ (u : ℕ). rejected bits size * u) (undecided n) in
      let power = pow-suc (rejected bits size) n in
      let nothing = ap (λ (u : ℕ). quota bits size * u) none in
      omega (arith, whole, nothing, rest, power)

  -- words taken
  abbrev taken_after : ℕ → Option ℕ → ℕ
  taken_after n None = (2 ^ bits) ^ n + sum_over_lists bits n (taken_of bits size)
  taken_after n (Some k) = (2 ^ bits) ^ n

  still_taken : (n word : ℕ) (o : Option ℕ) → named bits size word ≡ o
      → sum_over_lists bits n (λ words. taken_of bits size (word ∷ words)) ≡ taken_after n o
  still_taken n word None is =
      lists-same bits n (λ words. taken_of bits size (word ∷ words)) (λ words. 1 + taken_of bits size words) (λ words. taken-later bits size word words is)
      ∙ lists-plus bits n (λ words. 1) (taken_of bits size)
      ∙ (let ones = lists-constant bits n 1 in omega (arith, ones))
  still_taken n word (Some k) is =
      lists-same bits n (λ words. taken_of bits size (word ∷ words)) (λ words. 1) (λ words. taken-first bits size word words k is)
      ∙ lists-constant bits n 1 ∙ omega arith

  taken_more : (n : ℕ) → sum_over_lists bits (suc n) (taken_of bits size)
      ≡ 2 ^ bits * (2 ^ bits) ^ n + rejected bits size * sum_over_lists bits n (taken_of bits size)
  taken_more n =
      let whole = by_first n (taken_of bits size) (taken_after n) (still_taken n) in
      let firsts = ap (λ (u : ℕ). quota bits size * u) (sum-constant ((2 ^ bits) ^ n) 0 size) in
      let all = ap (λ (u : ℕ). u * (2 ^ bits) ^ n) (runs bits size width some fits).all in
      omega (arith, whole, firsts, all)

  pub taken_few : (n : ℕ) → sum_over_lists bits n (taken_of bits size) < 2 * (2 ^ bits) ^ n
  unfolding sum_over_lists
  taken_few zero = let one = pow-zero (2 ^ bits) in omega (arith, one)
  taken_few (suc n) =
      let more = taken_more n in
      let power = pow-suc (2 ^ bits) n in
      let some_words : 1 ≤ (2 ^ bits) ^ n = one-le-pow n (2 ^ bits) (pow_pos bits) in
      let rest : rejected bits size * sum_over_lists bits n (taken_of bits size) ≤ rejected bits size * (2 * (2 ^ bits) ^ n) =
      mul-le-mul_left (rejected bits size) (omega (arith, taken_few n)) in
      let few : (2 * rejected bits size + 1) * (2 ^ bits) ^ n ≤ 2 ^ bits * (2 ^ bits) ^ n =
      mul-le-mul_right ((2 ^ bits) ^ n) (omega (arith, (runs bits size width some fits).few)) in
      omega (arith, more, power, some_words, rest, few)

  -- an event
  module _ (test : ℕ → Bool) where
    abbrev decides_after : ℕ → Option ℕ → ℕ
    decides_after n None = lists_that bits n (λ words. passes test (decided bits size words))
    decides_after n (Some k) = cond (test k) 1 0 * (2 ^ bits) ^ n

    still_decides : (n word : ℕ) (o : Option ℕ) → named bits size word ≡ o
        → sum_over_lists bits n (λ words. cond (passes test (decided bits size (word ∷ words))) 1 0) ≡ decides_after n o
    still_decides n word None is =
        lists-same bits n (λ words. cond (passes test (decided bits size (word ∷ words))) 1 0) (λ words. cond (passes test (decided bits size words)) 1 0)
        (λ words. rw (decided-later bits size word words is) refl)
    still_decides n word (Some k) is =
        lists-same bits n (λ words. cond (passes test (decided bits size (word ∷ words))) 1 0) (λ words. cond (test k) 1 0)
        (λ words. rw (decided-first bits size word words k is) refl)
        ∙ lists-constant bits n (cond (test k) 1 0) ∙ omega arith

    event_more : (n : ℕ) → lists_that bits (suc n) (λ words. passes test (decided bits size words))
        ≡ rejected bits size * lists_that bits n (λ words. passes test (decided bits size words))
        + quota bits size * (count_by test (range_with_len 0 size) * (2 ^ bits) ^ n)
    event_more n =
        let whole = by_first n (λ words. cond (passes test (decided bits size words)) 1 0) (decides_after n) (still_decides n) in
        let each = ap (λ (u : ℕ). quota bits size * u) (sum-times (λ k. cond (test k) 1 0) ((2 ^ bits) ^ n) 0 size) in
        omega (arith, whole, each)

  -- an event of m numbers is decided by m times as many lists as an event of one number
  pub event_lists : (test one : ℕ → Bool) → count_by one (range_with_len 0 size) ≡ 1 → (n : ℕ)
      → lists_that bits n (λ words. passes test (decided bits size words))
      ≡ count_by test (range_with_len 0 size) * lists_that bits n (λ words. passes one (decided bits size words))
  unfolding sum_over_lists
  event_lists test one single zero = omega arith
  event_lists test one single (suc n) =
      let whole = event_more test n in
      let other = ap (λ (u : ℕ). count_by test (range_with_len 0 size) * u) (event_more one n) in
      let rest = ap (λ (u : ℕ). rejected bits size * u) (event_lists test one single n) in
      let of_one = ap (λ (u : ℕ). count_by test (range_with_len 0 size) * (quota bits size * (u * (2 ^ bits) ^ n))) single in
      omega (arith, whole, other, rest, of_one)
