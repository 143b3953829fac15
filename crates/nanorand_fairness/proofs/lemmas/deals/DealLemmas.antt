-- A deal is dealt by exactly one list of numbers.
use Rattle.std.proofs.Common.{◌≡◌, ℕ, ◌+◌, ◌-◌, ◌<◌, ◌≤◌, ◌^◌, true, List, [], ◌∷◌, length, get_or, swap, nat_eq, refl, sym, ◌∙◌, inl, inr, arith}
use Rattle.std.specs.List.{range_with_len}
use Rattle.std.specs.Cmp.Lexicographic.{pointwise, pointwise_decides}
use Rattle.std.proofs.lemmas.Bool.{cases_Bool, cases_lt, eq-eqb, eqb-true}
use Rattle.std.proofs.lemmas.List.{length-map, take_all}
use Rattle.std.proofs.lemmas.List.Edits.{length-swap}
use Rattle.std.proofs.lemmas.List.FromFn.{length-range_with_len, get_or-range_with_len, get_or-map-range_with_len}
use Rattle.std.proofs.lemmas.Grind.{get_or_default_zero}
use Rattle.std.proofs.lemmas.List.Sorted.{IsPermutation-keeps, All-permutation}
use Rattle.nanorand_core.specs.shuffles.Shuffles.{arranged}
use Rattle.nanorand_core.specs.shuffles.Arrangements.{rising, IsArrangement}
use Rattle.nanorand_fairness.specs.InTurn.{AreSizes, number_lists_that}
use Rattle.nanorand_fairness.specs.Deals.{choices_by, deal_sizes, dealt, IsDeal}
use Rattle.nanorand_fairness.proofs.lemmas.deals.StepLemmas.{after_steps}
use Rattle.nanorand_fairness.proofs.lemmas.deals.OneList.{one_list}
use Rattle.nanorand_fairness.proofs.lemmas.deals.FoundLemmas.{AreDifferent, Finds, finds, swap-different}

pub rising-different : (n : ℕ) → AreDifferent (rising n)
rising-different n j k j_low k_low same =
    let long = length-range_with_len 0 n in
    let at_j = get_or-range_with_len 0 n j 0 (omega (arith, long)) in
    let at_k = get_or-range_with_len 0 n k 0 (omega (arith, long)) in
    omega (arith, at_j, at_k, same)

pub finds-deal : (k n : ℕ) (deal : List ℕ) → k ≤ n → IsDeal k n deal → Finds k 0 n (rising n) deal
finds-deal k n deal within d =
    finds k 0 n (rising n) deal (length-range_with_len 0 n) (omega arith) (rising-different n) d.size
    (λ j m j_low m_low same. elim (cases_lt j m) [
      | inl less ↦ absurd (d.apart j m 0 less m_low same)
      | inr not_less ↦ elim (cases_lt m j) [
        | inl more ↦ absurd (d.apart m j 0 more j_low (sym same))
        | inr not_more ↦ omega arith
      ]
    ])
    (λ m low.
    let under = d.below m 0 low in
    (get_or deal m 0, omega arith, omega (arith, under, length-range_with_len 0 n), get_or-range_with_len 0 n (get_or deal m 0) 0 under ∙ omega arith))

-- the sizes of a deal's draws
pub deal-count : (k n : ℕ) → length (deal_sizes k n) ≡ k
deal-count k n = length-map (range_with_len 0 k) (λ i. n - i) ∙ length-range_with_len 0 k

pub deal-sizes : (k n bits : ℕ) → k ≤ n → n ≤ 2 ^ bits → AreSizes bits (deal_sizes k n)
deal-sizes k n bits within fits = λ j d low.
    let early : j < k = omega (arith, deal-count k n) in
    let at = get_or-map-range_with_len (λ i. n - i) 0 k j j d early (omega arith) in
    (omega (arith, at), omega (arith, at))

-- the test for equality with a list
pub same_list : (xs ys : List ℕ) → (pointwise nat_eq xs ys ≡ true → xs ≡ ys) × (xs ≡ ys → pointwise nat_eq xs ys ≡ true)
same_list xs ys = pointwise_decides (λ x y. (eqb-true x y, eq-eqb x y)) xs ys

pub one_deal : (k n : ℕ) (deal : List ℕ) → k ≤ n → IsDeal k n deal
    → number_lists_that (deal_sizes k n) (λ numbers. pointwise nat_eq (dealt k n numbers) deal) ≡ 1
one_deal k n deal within d =
    let found = finds-deal k n deal within d in
    one_list (deal_sizes k n) found.0 (λ numbers. pointwise nat_eq (dealt k n numbers) deal) found.1
    ((same_list (dealt k n found.0) deal).1 ((found.2 found.0 found.1).1 refl))
    (λ numbers below other. elim (cases_Bool (pointwise nat_eq (dealt k n numbers) deal)) [
      | inl same ↦ absurd (other ((found.2 numbers below).0 ((same_list (dealt k n numbers) deal).0 same)))
      | inr differ ↦ differ
    ])

-- An order is a deal of all items.
pub order-deal : (order : List ℕ) → IsArrangement order → IsDeal (length order) (length order) order
order-deal order arrangement =
    let n = length order in
    let long = length-range_with_len 0 n in
    let different = IsPermutation-keeps (rising n) AreDifferent (rising-different n)
    (λ xs i j i_low j_low. swap-different xs i j i_low j_low) order arrangement in
    record {
      size = refl;
      below = All-permutation (λ index. index < n) (rising n) order arrangement
          (λ j d low. let at = get_or-range_with_len 0 n j d (omega (arith, long)) in omega (arith, at, long));
      apart = λ j k d less low same.
          let equal = different j k (omega arith) low (sym (get_or_default_zero order j d (omega arith)) ∙ same ∙ get_or_default_zero order k d low) in
          absurd (omega (arith, equal));
    }

-- steps keep the number of items
pub steps-size : (i : ℕ) (numbers items : List ℕ) → length (after_steps i numbers items) ≡ length items
steps-size i [] items = refl
steps-size i (t ∷ ts) items = steps-size (i + 1) ts (swap items i (i + t)) ∙ length-swap items i (i + t)

pub whole-deal : (n : ℕ) (numbers : List ℕ) → dealt n n numbers ≡ arranged (choices_by 0 numbers) (rising n)
whole-deal n numbers =
    take_all n (arranged (choices_by 0 numbers) (rising n)) (omega (arith, steps-size 0 numbers (rising n), length-range_with_len 0 n))
