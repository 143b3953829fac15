-- Of the lists of numbers that draw a deal, each index is dealt by the same share.
use Rattle.std.proofs.Common.{◌≡◌, ◌≢◌, ℕ, zero, suc, ◌+◌, ◌-◌, ◌*◌, ◌<◌, ◌≤◌, ◌||◌, Bool, true, nat_eq, List, ◌∷◌}
use Rattle.std.proofs.Common.{length, get_or, take, drop, swap, refl, sym, ◌∙◌, ap, arith}
use Rattle.std.specs.List.{list_any}
use Rattle.std.proofs.lemmas.Bool.{eq-eqb, ne_eqb}
use Rattle.std.proofs.lemmas.List.Edits.{length-swap}
use Rattle.std.proofs.lemmas.List.FromFn.{length-range_with_len, get_or-range_with_len}
use Rattle.nanorand_core.specs.shuffles.Arrangements.{rising}
use Rattle.nanorand_fairness.specs.InTurn.{number_lists_that}
use Rattle.nanorand_fairness.specs.Deals.{deal_sizes, dealt, deals_of}
use Rattle.nanorand_fairness.proofs.lemmas.Sums.{sum-apart, sum-constant}
use Rattle.nanorand_fairness.proofs.lemmas.deals.StepLemmas.{AreBelow, sizes_from, after_steps}
use Rattle.nanorand_fairness.proofs.lemmas.deals.FoundLemmas.{AreDifferent, swap-different, swap-from, first-dealt}
use Rattle.nanorand_fairness.proofs.lemmas.deals.DealLists.{numbers-same}
use Rattle.nanorand_fairness.proofs.lemmas.deals.DealLemmas.{rising-different}

-- the number of lists of numbers of k steps from index i on
abbrev all_from : ℕ → ℕ → ℕ → ℕ
all_from i k n = number_lists_that (sizes_from i k n) (λ numbers. true)

-- it is the number of deals of the items left
all-deals : (i k n : ℕ) → all_from i k n ≡ deals_of k (n - i)
all-deals i zero n = refl
all-deals i (suc k) n =
    let later = ap (λ (m : ℕ). (n - i) * m) (all-deals (i + 1) k n) in
    let left : n - (i + 1) ≡ n - i - 1 = omega arith in
    sum-constant (all_from (i + 1) k n) 0 (n - i) ∙ later ∙ ap (λ (m : ℕ). (n - i) * deals_of k m) left

pub whole-deals : (k n : ℕ) → number_lists_that (deal_sizes k n) (λ numbers. true) ≡ deals_of k n
whole-deals k n = all-deals 0 k n ∙ ap (deals_of k) (omega arith)

-- the number of those that deal one item
abbrev share_from : ℕ → ℕ → ℕ → ℕ
share_from i zero n = 0
share_from i (suc k) n = suc k * all_from (i + 1) k n

-- the share is k of the n - i items left
share-whole : (i k n : ℕ) → (n - i) * share_from i k n ≡ k * all_from i k n
share-whole i zero n = omega arith
share-whole i (suc k) n =
    let all = ap (λ (m : ℕ). suc k * m) (sum-constant (all_from (i + 1) k n) 0 (n - i)) in
    omega (arith, all)

-- one number deals the item at once; each of the others leaves it to the later steps
share-step : (i k n : ℕ) → i + suc k ≤ n
    → all_from (i + 1) k n + (n - i) * share_from (i + 1) k n ≡ share_from i (suc k) n + share_from (i + 1) k n
share-step i k n room =
    let later = share-whole (i + 1) k n in
    let left : n - i ≡ suc (n - (i + 1)) = omega arith in
    let more = ap (λ (m : ℕ). m * share_from (i + 1) k n) left in
    omega (arith, later, more)

-- whether k steps from index i on deal the item
abbrev deals_item : ℕ → ℕ → ℕ → List ℕ → List ℕ → Bool
deals_item i k item items numbers = list_any (λ other. nat_eq other item) (take k (drop i (after_steps i numbers items)))

module _ (k i n item t : ℕ) (items ts : List ℕ) (size : length items ≡ n) (room : i + suc k ≤ n) (below : AreBelow (t ∷ ts) (sizes_from i (suc k) n)) where
  by-first : deals_item i (suc k) item items (t ∷ ts) ≡ (nat_eq (get_or items (i + t) 0) item || deals_item (i + 1) k item (swap items i (i + t)) ts)
  by-first = ap (λ (xs : List ℕ). list_any (λ other. nat_eq other item) (take (suc k) xs)) (first-dealt k i n t ts items below size room)

  dealt-now : get_or items (i + t) 0 ≡ item → deals_item i (suc k) item items (t ∷ ts) ≡ true
  dealt-now is = by-first ∙ rw (eq-eqb (get_or items (i + t) 0) item is) refl

  dealt-later : get_or items (i + t) 0 ≢ item → deals_item i (suc k) item items (t ∷ ts) ≡ deals_item (i + 1) k item (swap items i (i + t)) ts
  dealt-later other = by-first ∙ rw (ne_eqb (get_or items (i + t) 0) item other) refl

-- the item at any index q, i or later
item-share : (k i n item q : ℕ) (items : List ℕ) → length items ≡ n → i + k ≤ n → AreDifferent items → i ≤ q → q < n → get_or items q 0 ≡ item
    → number_lists_that (sizes_from i k n) (deals_item i k item items) ≡ share_from i k n
item-share zero i n item q items size room differ from to is = refl
item-share (suc k) i n item q items size room differ from to is =
    let sizes = sizes_from (i + 1) k n in
    let t0 : ℕ = q - i in
    let place : i + t0 ≡ q = omega arith in
    let now = numbers-same sizes (λ ts. deals_item i (suc k) item items (t0 ∷ ts)) (λ ts. true)
    (λ ts below. dealt-now k i n item t0 items ts size room (omega arith, below) (ap (λ (j : ℕ). get_or items j 0) place ∙ is)) in
    let later : (t : ℕ) → 0 ≤ t → t < 0 + (n - i) → (t ≢ t0)
    → number_lists_that sizes (λ ts. deals_item i (suc k) item items (t ∷ ts)) ≡ share_from (i + 1) k n =
    λ t least low other.
    let apart : get_or items (i + t) 0 ≢ item = λ same.
    let places = differ (i + t) q (omega (arith, size)) (omega (arith, size)) (same ∙ sym is) in absurd (other (omega (arith, places))) in
    let moved = swap-from items i (i + t) (omega (arith, size)) (omega (arith, size)) (omega arith) q from
    (omega (arith, size)) (λ same. other (omega (arith, same))) in
    numbers-same sizes (λ ts. deals_item i (suc k) item items (t ∷ ts)) (deals_item (i + 1) k item (swap items i (i + t)))
    (λ ts below. dealt-later k i n item t items ts size room (omega arith, below) apart)
    ∙ item-share k (i + 1) n item moved.0 (swap items i (i + t)) (length-swap items i (i + t) ∙ size) (omega (arith, room))
    (swap-different items i (i + t) (omega (arith, size)) (omega (arith, size)) differ) moved.1
    (omega (arith, moved.2, length-swap items i (i + t), size)) (moved.3 ∙ is) in
    let all = sum-apart (λ t. number_lists_that sizes (λ ts. deals_item i (suc k) item items (t ∷ ts)))
    (all_from (i + 1) k n) (share_from (i + 1) k n) t0 0 (n - i)
    (omega arith) (omega arith) now later in
    omega (arith, all, share-step i k n room)

pub index-share : (k n index : ℕ) → k ≤ n → index < n
    → n * number_lists_that (deal_sizes k n) (λ numbers. list_any (λ item. nat_eq item index) (dealt k n numbers))
    ≡ k * number_lists_that (deal_sizes k n) (λ numbers. true)
index-share k n index within low =
    let share = item-share k 0 n index index (rising n) (length-range_with_len 0 n) (omega arith) (rising-different n)
    (omega arith) low (get_or-range_with_len 0 n index 0 low ∙ omega arith) in
    let all : n ≡ n - 0 = omega arith in
    ap (λ (m : ℕ). n * m) share ∙ ap (λ (m : ℕ). m * share_from 0 k n) all ∙ share-whole 0 k n
