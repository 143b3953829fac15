-- Whole and partial shuffles by words: which items come first, for each list of words.
use Rattle.std.specs.Prelude.{◌≡◌, ◌≢◌, ℕ, zero, suc, ◌+◌, ◌-◌, ◌*◌, ◌^◌, ◌<◌, ◌≤◌, ◌==◌, ◌↔◌, true, List, [], ◌∷◌, length, map, min, take}
use Rattle.std.specs.List.{All, AllPairs, list_any, range_with_len}
use Rattle.std.specs.Cmp.Lexicographic.{pointwise}
use Rattle.nanorand_core.specs.generators.Blocks.{Requests}
use Rattle.nanorand_core.specs.values.Draws.{word_limit, next_word, after_word, words_from}
use Rattle.nanorand_core.specs.shuffles.Shuffles.{arranged, from_itself, partly_shuffled}
use Rattle.nanorand_core.specs.shuffles.Arrangements.{rising, IsArrangement}
use Rattle.nanorand_fairness.specs.InTurn.{quotas, numbers_in_turn, deciding_in_turn, word_lists_that}

-- The sizes of the first k draws of a shuffle of n items: n, n - 1, ..
abbrev pub deal_sizes : ℕ → ℕ → List ℕ
deal_sizes k n = map (λ i. n - i) (range_with_len 0 k)

-- The choices that follow from drawn numbers, from index i on: the number t chooses index i + t.
abbrev pub choices_by : ℕ → List ℕ → List ℕ
choices_by i [] = []
choices_by i (number ∷ numbers) = (i + number) ∷ choices_by (i + 1) numbers

-- The first k items of 0, 1, .., n - 1 after the shuffle by these numbers: the deal of k items.
abbrev pub dealt : ℕ → ℕ → List ℕ → List ℕ
dealt k n numbers = take k (arranged (choices_by 0 numbers) (rising n))

-- A deal: k different indices below n, in some order.
pub record IsDeal (k n : ℕ) (deal : List ℕ) : Type 0 where
  pub size : length deal ≡ k
  pub below : All (λ index. index < n) deal
  pub apart : AllPairs (λ index other. index ≢ other) deal

-- There are k numbers, one for each size, and they deal this deal.
pub record Deals (k n : ℕ) (deal numbers : List ℕ) : Type 0 where
  pub drawn : length numbers ≡ k
  pub is : dealt k n numbers ≡ deal

-- Every deal of k of n items is dealt by the same number of lists of k words: the product of the
-- quotas of n, n - 1, .. If k = n, the deal is a whole shuffle.
abbrev pub DealsAreFair : Type 0
DealsAreFair =
    (k n : ℕ) (deal : List ℕ) → k ≤ n → n ≤ 2 ^ 64 → IsDeal k n deal
    → word_lists_that 64 k (deal_sizes k n) (λ numbers. pointwise ◌==◌ (dealt k n numbers) deal)
    ≡ quotas 64 (deal_sizes k n)

-- Every order of n items is made by the same number of lists of n words.
abbrev pub ShufflesAreFair : Type 0
ShufflesAreFair =
    (order : List ℕ) → let n = length order in n ≤ 2 ^ 64 → IsArrangement order
    → word_lists_that 64 n (deal_sizes n n)
    (λ numbers. pointwise ◌==◌ (arranged (choices_by 0 numbers) (rising n)) order)
    ≡ quotas 64 (deal_sizes n n)

-- A map on lists of words exchanges two deals: it is an involution, keeps the length and which
-- words are rejected, and a list of words deals the one if and only if its image deals the other.
pub record ExchangesDeals (k n : ℕ) (deal other : List ℕ) (swap : List ℕ → List ℕ) : Type 0 where
  pub fits : (words : List ℕ) → All (λ word. word < 2 ^ 64) words
      → All (λ word. word < 2 ^ 64) (swap words)
  pub keeps_length : (words : List ℕ) → length (swap words) ≡ length words
  pub back : (words : List ℕ) → swap (swap words) ≡ words
  pub deciding : (words : List ℕ) → deciding_in_turn 64 (deal_sizes k n) (swap words)
      ≡ deciding_in_turn 64 (deal_sizes k n) words
  pub exchanged : (words : List ℕ)
      → Deals k n deal (numbers_in_turn 64 (deal_sizes k n) words)
      ↔ Deals k n other (numbers_in_turn 64 (deal_sizes k n) (swap words))

-- No deal is preferred to another, whatever words are rejected.
abbrev pub NoDealIsPreferred : Type 0
NoDealIsPreferred =
    (k n : ℕ) (deal other : List ℕ) → k ≤ n → n ≤ 2 ^ 64 → IsDeal k n deal → IsDeal k n other
    → (swap : List ℕ → List ℕ) × ExchangesDeals k n deal other swap

-- Every index is in the same fraction of the deals of k of n: of the lists of m words that draw a
-- whole deal, rejected words included, the fraction k / n deals the index.
abbrev pub SharesAreEqual : Type 0
SharesAreEqual =
    (k n m index : ℕ) → k ≤ n → n ≤ 2 ^ 64 → index < n
    → let lists = word_lists_that 64 m (deal_sizes k n) in
    n * lists (λ numbers. list_any (λ item. item == index) (dealt k n numbers))
    ≡ k * lists (λ numbers. true)

-- The number of deals of k of n items: n (n - 1) .. (n - k + 1).
abbrev pub deals_of : ℕ → ℕ → ℕ
deals_of zero n = 1
deals_of (suc k) n = n * deals_of k (n - 1)

-- Every deal has the same share: of the lists of m words that draw a whole deal, rejected words
-- included, one in n (n - 1) .. (n - k + 1) deals it.
abbrev pub PartsAreEqual : Type 0
PartsAreEqual =
    (k n m : ℕ) (deal : List ℕ) → k ≤ n → n ≤ 2 ^ 64 → IsDeal k n deal
    → let lists = word_lists_that 64 m (deal_sizes k n) in
    deals_of k n * lists (λ numbers. pointwise ◌==◌ (dealt k n numbers) deal)
    ≡ lists (λ numbers. true)

-- The choices of `shuffle` and `partial_shuffle` are those that follow from the numbers that their
-- words draw in turn.
abbrev pub ShufflesDrawInTurn : {G : Type 0} → Type 0 → Requests G → Type 0
ShufflesDrawInTurn {G} T requests =
    (steps : ℕ) (g : G) (items : List T) → length items ≤ 2 ^ 64
    → let draws = min steps (length items) in
    let words = words_from (next_word requests 64)
    (after_word requests 64) (word_limit * draws) g in
    (partly_shuffled requests from_itself steps g items).choices
    ≡ choices_by 0 (numbers_in_turn 64 (deal_sizes draws (length items)) words)
