-- If all orders of n items were made by the same number of lists of choices, n! would divide n^n.
use Rattle.std.proofs.Common.{◌≡◌, ℕ, zero, suc, ◌+◌, ◌-◌, ◌*◌, ◌^◌, ◌≤◌, Bool, true, cond, nat_eq, List, [], ◌∷◌}
use Rattle.std.proofs.Common.{length, replicate, swap, refl, sym, ◌∙◌, ap, subst, arith}
use Rattle.std.specs.Cmp.Lexicographic.{pointwise}
use Rattle.std.specs.List.Sorted.{IsPermutation}
use Rattle.std.proofs.Math.Nat.{pow-zero, pow-suc}
use Rattle.std.proofs.lemmas.List.Edits.{length-swap}
use Rattle.std.proofs.lemmas.List.FromFn.{length-range_with_len}
use Rattle.std.proofs.lemmas.List.Sorted.{IsPermutation-refl, IsPermutation-swap, IsPermutation-trans, length_permutation}
use Rattle.nanorand_core.specs.samples.Samples.{factorial}
use Rattle.nanorand_core.specs.shuffles.Shuffles.{arranged, arranged_from}
use Rattle.nanorand_core.specs.shuffles.Arrangements.{rising, IsArrangement}
use Rattle.nanorand_fairness.specs.InTurn.{number_lists_that}
use Rattle.nanorand_fairness.specs.Deals.{choices_by, deal_sizes, dealt, deals_of, IsDeal}
use Rattle.nanorand_fairness.specs.FullShuffles.{choices_making}
use Rattle.nanorand_fairness.proofs.lemmas.Sums.{sum-constant}
use Rattle.nanorand_fairness.proofs.lemmas.NamedSums.{same_number}
use Rattle.nanorand_fairness.proofs.lemmas.NumberSums.{sum_over_numbers, numbers-equal, numbers-constant, count-sum, lists-in-lists}
use Rattle.nanorand_fairness.proofs.lemmas.deals.StepLemmas.{AreBelow, sizes_from}
use Rattle.nanorand_fairness.proofs.lemmas.deals.DealLemmas.{one_deal, order-deal, whole-deal}
use Rattle.nanorand_fairness.proofs.lemmas.deals.ShareLemmas.{whole-deals}

-- choices of any indices only move items
choices-permute : (k i n : ℕ) (choices items : List ℕ) → AreBelow choices (replicate k n) → length items ≡ n → i + k ≤ n
    → IsPermutation items (arranged_from i choices items)
choices-permute zero i n [] items below size room = IsPermutation-refl items
choices-permute zero i n (c ∷ cs) items below size room = absurd below
choices-permute (suc k) i n [] items below size room = absurd below
choices-permute (suc k) i n (c ∷ cs) items below size room =
    IsPermutation-trans items (swap items i c) (arranged_from (i + 1) cs (swap items i c))
    (IsPermutation-swap items (swap items i c) i c (omega arith) (omega (arith, below.0)) refl)
    (choices-permute k (i + 1) n cs (swap items i c) below.1 (length-swap items i c ∙ size) (omega (arith, room)))

-- the choices by drawn numbers are such choices
numbers-choose : (k i n : ℕ) (numbers : List ℕ) → AreBelow numbers (sizes_from i k n) → AreBelow (choices_by i numbers) (replicate k n)
numbers-choose zero i n [] below = tt
numbers-choose zero i n (t ∷ ts) below = absurd below
numbers-choose (suc k) i n [] below = absurd below
numbers-choose (suc k) i n (t ∷ ts) below = (omega (arith, below.0), numbers-choose k (i + 1) n ts below.1)

-- the number of lists of choices, and the number of orders
all-choices : (k n : ℕ) → number_lists_that (replicate k n) (λ choices. true) ≡ n ^ k
all-choices zero n = sym (pow-zero n)
all-choices (suc k) n =
    let whole = sum-constant (number_lists_that (replicate k n) (λ choices. true)) 0 n in
    let rest = ap (λ (u : ℕ). n * u) (all-choices k n) in
    let power = pow-suc n k in
    omega (arith, whole, rest, power)

all-orders : (n : ℕ) → deals_of n n ≡ factorial n
all-orders zero = refl
all-orders (suc k) =
    let left : suc k - 1 ≡ k = omega arith in
    ap (λ (u : ℕ). suc k * deals_of k u) left ∙ ap (λ (u : ℕ). suc k * u) (all-orders k)

same-turned : (xs ys : List ℕ) → pointwise nat_eq xs ys ≡ pointwise nat_eq ys xs
same-turned [] [] = refl
same-turned [] (y ∷ ys) = refl
same-turned (x ∷ xs) [] = refl
same-turned (x ∷ xs) (y ∷ ys) = rw (same_number x y, same-turned xs ys) refl

module _ (n : ℕ) where
  -- every list that choices make from n items is an order
  made-order : (choices : List ℕ) → AreBelow choices (replicate n n)
      → (length (arranged choices (rising n)) ≡ n) × IsPermutation (rising n) (arranged choices (rising n))
  made-order choices below =
      let moved = choices-permute n 0 n choices (rising n) below (length-range_with_len 0 n) (omega arith) in
      (length_permutation (rising n) (arranged choices (rising n)) moved ∙ length-range_with_len 0 n, moved)

  is-order : (order : List ℕ) → length order ≡ n → IsPermutation (rising n) order → IsArrangement order
  is-order order size moved = rw size moved

  -- exactly one list of a shuffle's numbers makes the order that choices make
  made-once : (choices : List ℕ) → AreBelow choices (replicate n n)
      → sum_over_numbers (deal_sizes n n) (λ numbers. cond (pointwise nat_eq (dealt n n numbers) (arranged choices (rising n))) 1 0) ≡ 1
  made-once choices below =
      let order = arranged choices (rising n) in
      let made = made-order choices below in
      let deal = subst (λ k. IsDeal k k order) made.0 (order-deal order (is-order order made.0 made.1)) in
      sym (count-sum (deal_sizes n n) (λ numbers. pointwise nat_eq (dealt n n numbers) order)) ∙ one_deal n n order (omega arith) deal

  module _ (m : ℕ) (equal : (order : List ℕ) → length order ≡ n → IsArrangement order → choices_making order ≡ m) where
    -- m lists of choices make the order that a shuffle's numbers make
    made-often : (numbers : List ℕ) → AreBelow numbers (deal_sizes n n)
        → sum_over_numbers (replicate n n) (λ choices. cond (pointwise nat_eq (dealt n n numbers) (arranged choices (rising n))) 1 0) ≡ m
    made-often numbers below =
        let order = dealt n n numbers in
        let chosen = made-order (choices_by 0 numbers) (numbers-choose n 0 n numbers below) in
        let whole = whole-deal n numbers in
        let size : length order ≡ n = ap length whole ∙ chosen.0 in
        let moved : IsPermutation (rising n) order = rw whole chosen.1 in
        numbers-equal (replicate n n) (λ choices. cond (pointwise nat_eq order (arranged choices (rising n))) 1 0)
        (λ choices. cond (pointwise nat_eq (arranged choices (rising n)) order) 1 0)
        (λ choices low. ap (λ (b : Bool). cond b 1 0) (same-turned order (arranged choices (rising n))))
        ∙ sym (count-sum (replicate n n) (λ choices. pointwise nat_eq (arranged choices (rising n)) order))
        ∙ ap (λ (k : ℕ). number_lists_that (replicate k k) (λ choices. pointwise nat_eq (arranged choices (rising k)) order)) (sym size)
        ∙ equal order size (is-order order size moved)

    pub equal-shares : n ^ n ≡ m * factorial n
    equal-shares =
        let same = λ (choices numbers : List ℕ). cond (pointwise nat_eq (dealt n n numbers) (arranged choices (rising n))) 1 0 in
        let by_choices = numbers-equal (replicate n n) (λ choices. sum_over_numbers (deal_sizes n n) (same choices)) (λ choices. 1) made-once
        ∙ numbers-constant (replicate n n) 1 in
        let by_orders = numbers-equal (deal_sizes n n) (λ numbers. sum_over_numbers (replicate n n) (λ choices. same choices numbers)) (λ numbers. m) made-often
        ∙ numbers-constant (deal_sizes n n) m in
        let both = lists-in-lists (replicate n n) (deal_sizes n n) same in
        let choices = all-choices n n in
        let orders = ap (λ (u : ℕ). u * m) (whole-deals n n ∙ all-orders n) in
        omega (arith, by_choices, by_orders, both, choices, orders)
