-- The numbers of an item are exactly those in its share.
use Rattle.std.proofs.Common.{◌≡◌, ℕ, zero, suc, ◌+◌, ◌-◌, ◌*◌, ◌<◌, ◌&&◌, Bool, cond, List, [], ◌∷◌, length, take}
use Rattle.std.proofs.Common.{slice_index, min, max, Option, Some, None, option_map, nat_eq, nat_le, nat_lt, refl, ◌∙◌}
use Rattle.std.proofs.Common.{ap, inl, inr, arith}
use Rattle.std.specs.List.{range_with_len, count_by, sum}
use Rattle.std.proofs.lemmas.Bool.{cases_lt, lt-ltb, le-ltb}
use Rattle.std.proofs.lemmas.Bool.Decides.{nat_tests}
use Rattle.std.proofs.lemmas.List.Sums.{sum_by-cons, sum_by_more_le}
use Rattle.nanorand_core.specs.values.Runs.{named, quota, words_that}
use Rattle.nanorand_core.specs.values.Fairness.{EventsAreFair, passes}
use Rattle.nanorand_core.specs.choices.Weighted.{item_at, ChoicesAreFair}

-- the count of those of the n numbers from c on that are at least a and below b
count_between : (a b n c : ℕ) → count_by (λ k. nat_le a k && nat_lt k b) (range_with_len c n) ≡ min b (c + n) - max a c
count_between a b zero c = omega arith
count_between a b (suc n) c =
    let first = sum_by-cons (λ k. cond (nat_le a k && nat_lt k b) 1 0) c (range_with_len (c + 1) n) in
    let here : cond (nat_le a c && nat_lt c b) 1 0 ≡ min b (c + 1) - max a c = grind (arith, nat_tests) in
    let rest = count_between a b n (c + 1) in
    omega (arith, first, here, rest)

-- an item is chosen by a number if and only if the number is in its share
item_in_share : (weights : List ℕ) (i k : ℕ) → i < length weights
    → nat_eq (item_at weights k) i ≡ (nat_le (sum (take i weights)) k && nat_lt k (sum (take i weights) + slice_index weights i))
item_in_share [] i k within = absurd (omega arith)
item_in_share (weight ∷ weights) zero k within =
    elim (cases_lt k weight) [
      | inl under ↦ rw (lt-ltb k weight under) (grind (arith, nat_tests))
      | inr over ↦ rw (le-ltb k weight over) (grind (arith, nat_tests))
    ]
item_in_share (weight ∷ weights) (suc i) k within =
    let before = sum_by-cons (λ w. w) weight (take i weights) in
    elim (cases_lt k weight) [
      | inl under ↦ rw (lt-ltb k weight under, before) (grind (arith, nat_tests))
      | inr over ↦
          let rest = item_in_share weights i (k - weight) (omega arith) in
          rw (le-ltb k weight over, before) (grind (arith, nat_tests, rest))
    ]

-- so an item has as many numbers as its weight
item_count : (weights : List ℕ) (i : ℕ) → i < length weights
    → count_by (λ k. nat_eq (item_at weights k) i) (range_with_len 0 (sum weights)) ≡ slice_index weights i
item_count weights i within =
    let first = sum (take i weights) in
    let end = first + slice_index weights i in
    let fits = sum_by_more_le (λ w. w) weights i 0 within in
    ap (λ (test : ℕ → Bool). count_by test (range_with_len 0 (sum weights))) (λ j k. item_in_share weights i k within j)
    ∙ count_between first end (sum weights) 0
    ∙ omega (arith, fits)

named_item : (weights : List ℕ) (i : ℕ) (number : Option ℕ)
    → passes (λ j. nat_eq j i) (option_map (item_at weights) number) ≡ passes (λ k. nat_eq (item_at weights k) i) number
named_item weights i (Some k) = refl
named_item weights i None = refl

pub choices_are_fair : EventsAreFair → ChoicesAreFair
choices_are_fair events bits weights i width some fits within =
    ap (words_that bits) (λ j word. named_item weights i (named bits (sum weights) word) j)
    ∙ events bits (sum weights) (λ k. nat_eq (item_at weights k) i) width some fits
    ∙ ap (λ (n : ℕ). n * quota bits (sum weights)) (item_count weights i within)
