-- The number of numbers of an event, from the number of words that name it.
use Rattle.std.proofs.Common.{◌≡◌, ℕ, ◌*◌, ◌≤◌, ◌^◌, Bool, cond, nat_eq, List, Option, Some, None, option_map, refl, sym, ◌∙◌, ap}
use Rattle.std.specs.List.{sum, count_by, range_with_len}
use Rattle.std.proofs.Math.Nat.{eq_of_mul-eq-mul_right}
use Rattle.nanorand_core.specs.values.Runs.{IsWordWidth, named, quota, words_that}
use Rattle.nanorand_core.specs.values.Fairness.{passes, RunsAreFair, EventsAreFair}
use Rattle.nanorand_core.specs.choices.Weighted.{item_at, item_named}
use Rattle.nanorand_fairness.specs.Lists.{lists_that, number_by_words}
use Rattle.nanorand_fairness.proofs.lemmas.Sums.{sum-terms}
use Rattle.nanorand_fairness.proofs.lemmas.DrawLists.{lists-same}

-- if m times as many words name an event as one number, the event has m numbers
pub event-count : RunsAreFair → EventsAreFair → (bits size m : ℕ) (test : ℕ → Bool) → IsWordWidth bits → 1 ≤ size → size ≤ 2 ^ bits
    → words_that bits (λ word. passes test (named bits size word)) ≡ m * quota bits size
    → count_by test (range_with_len 0 size) ≡ m
event-count runs events bits size m test width some fits words =
    eq_of_mul-eq-mul_right (quota bits size) (runs bits size width some fits).some _ m (sym (events bits size test width some fits) ∙ words)

-- a test of the values that numbers represent
pub passes-map : (f : ℕ → ℕ) (i : ℕ) (o : Option ℕ)
    → passes (λ j. nat_eq j i) (option_map f o) ≡ passes (λ k. nat_eq (f k) i) o
passes-map f i None = refl
passes-map f i (Some k) = refl

-- the words that name an item are those whose number is in its share
item-words : (bits : ℕ) (weights : List ℕ) (i : ℕ)
    → words_that bits (λ word. passes (λ j. nat_eq j i) (item_named bits weights word))
    ≡ words_that bits (λ word. passes (λ k. nat_eq (item_at weights k) i) (named bits (sum weights) word))
unfolding words_that
item-words bits weights i =
    sum-terms (λ word. cond (passes (λ j. nat_eq j i) (item_named bits weights word)) 1 0)
    (λ word. cond (passes (λ k. nat_eq (item_at weights k) i) (named bits (sum weights) word)) 1 0)
    (λ word. ap (λ (b : Bool). cond b 1 0) (passes-map (item_at weights) i (named bits (sum weights) word))) 0 (2 ^ bits)

-- the number of numbers that represent an item is its weight
pub share-count : RunsAreFair → EventsAreFair → (bits m : ℕ) (weights : List ℕ) (i : ℕ) → IsWordWidth bits → 1 ≤ sum weights → sum weights ≤ 2 ^ bits
    → words_that bits (λ word. passes (λ j. nat_eq j i) (item_named bits weights word)) ≡ m * quota bits (sum weights)
    → count_by (λ k. nat_eq (item_at weights k) i) (range_with_len 0 (sum weights)) ≡ m
share-count runs events bits m weights i width some fits words =
    event-count runs events bits (sum weights) m (λ k. nat_eq (item_at weights k) i) width some fits (sym (item-words bits weights i) ∙ words)

-- the lists that decide an item
pub item-lists : (bits n : ℕ) (weights : List ℕ) (i : ℕ)
    → let drawn = number_by_words bits (sum weights) in
    lists_that bits n (λ words. passes (λ j. nat_eq j i) (option_map (item_at weights) (drawn words)))
    ≡ lists_that bits n (λ words. passes (λ k. nat_eq (item_at weights k) i) (drawn words))
item-lists bits n weights i =
    lists-same bits n (λ words. cond (passes (λ j. nat_eq j i) (option_map (item_at weights) (number_by_words bits (sum weights) words))) 1 0)
    (λ words. cond (passes (λ k. nat_eq (item_at weights k) i) (number_by_words bits (sum weights) words)) 1 0)
    (λ words. ap (λ (b : Bool). cond b 1 0) (passes-map (item_at weights) i (number_by_words bits (sum weights) words)))
