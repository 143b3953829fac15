-- Counting lists of words: one draw from a list of words, rejected words included. A word is a
-- random integer of N bits.
use Rattle.std.specs.Prelude.{◌≡◌, ℕ, zero, suc, ◌+◌, ◌-◌, ◌*◌, ◌^◌, ◌<◌, ◌≤◌, ◌==◌, Bool, List, [], ◌∷◌, length, min}
use Rattle.std.specs.Prelude.{take, sum, sum_by, count_by, slice_index, nat_lt, Option, is_none, option_map}
use Rattle.std.specs.Prelude.{if◌then◌else◌}
use Rattle.std.specs.List.{range_with_len}
use Rattle.std.specs.Option.{option_map_or}
use Rattle.nanorand_core.specs.generators.Blocks.{Requests}
use Rattle.nanorand_core.specs.values.Runs.{IsWordWidth, rejected}
use Rattle.nanorand_core.specs.values.Draws.{after_word, deciding_place, decided, next_word, word_limit, words_from}
use Rattle.nanorand_core.specs.values.Fairness.{passes}
use Rattle.nanorand_core.specs.choices.Weighted.{item_at}

-- The sum of f over all lists of n words of `bits` bits.
unfoldable pub sum_over_lists : ℕ → ℕ → (List ℕ → ℕ) → ℕ
sum_over_lists bits zero f = f []
sum_over_lists bits (suc n) f =
    sum_by (λ word. sum_over_lists bits n (λ words. f (word ∷ words))) (range_with_len 0 (2 ^ bits))

-- The number of lists of n words of `bits` bits that pass a test.
abbrev pub lists_that : ℕ → ℕ → (List ℕ → Bool) → ℕ
lists_that bits n test = sum_over_lists bits n (λ words. if test words then 1 else 0)

-- The number that a draw takes from a list of words, if it takes one. A draw decides by the first
-- 128 words.
abbrev pub number_by_words : ℕ → ℕ → List ℕ → Option ℕ
number_by_words bits size words = decided bits size (take word_limit words)

-- The number of words that a draw takes from the list: those up to the deciding word, or all of the
-- first 128.
abbrev pub words_taken : ℕ → ℕ → List ℕ → ℕ
words_taken bits size words =
    let first = take word_limit words in
    option_map_or (λ i. i + 1) (deciding_place bits size first) (length first)

-- The next 128 words of a generator.
abbrev pub next_words : {G : Type 0} → Requests G → ℕ → G → List ℕ
next_words requests bits g = words_from (next_word requests bits) (after_word requests bits) word_limit g

-- Let t of all words be rejected. For n up to 128, a draw takes no number from exactly t^n of the
-- lists of n words. From a list of more words it takes 128, so it takes no number from t^128 lists
-- for each list of the other words.
abbrev pub UndecidedListsAreFew : Type 0
UndecidedListsAreFew =
    (bits size n : ℕ) → IsWordWidth bits → 1 ≤ size → size ≤ 2 ^ bits
    → let taken = min n word_limit in
    lists_that bits n (λ words. is_none (number_by_words bits size words))
    ≡ rejected bits size ^ taken * (2 ^ bits) ^ (n - taken)

-- A draw takes at most 128 words.
abbrev pub DrawsEndAtTheLimit : Type 0
DrawsEndAtTheLimit = (bits size : ℕ) (words : List ℕ) → words_taken bits size words ≤ word_limit

-- A draw takes fewer than two words on average: over all lists of n words, the number of words
-- taken is less than twice the number of lists.
abbrev pub DrawsTakeFewWords : Type 0
DrawsTakeFewWords =
    (bits size n : ℕ) → IsWordWidth bits → 1 ≤ size → size ≤ 2 ^ bits
    → sum_over_lists bits n (words_taken bits size) < 2 * (2 ^ bits) ^ n

-- An event is given by a test that some numbers below the size pass. The number of lists of n words
-- that decide the event is the number of lists that decide one number, times the number of numbers
-- that pass.
abbrev pub EventsInListsAreFair : Type 0
EventsInListsAreFair =
    (bits size n k : ℕ) (test : ℕ → Bool) → IsWordWidth bits → size ≤ 2 ^ bits → k < size
    → let drawn = number_by_words bits size in
    lists_that bits n (λ words. passes test (drawn words))
    ≡ count_by test (range_with_len 0 size)
    * lists_that bits n (λ words. passes (λ j. j == k) (drawn words))

-- So an event with the ratio `numerator` / `denominator` is decided by `numerator` times as many
-- lists as one number.
abbrev pub RatiosInListsAreFair : Type 0
RatiosInListsAreFair =
    (bits numerator denominator n k : ℕ) → IsWordWidth bits → denominator ≤ 2 ^ bits
    → numerator ≤ denominator → k < denominator
    → let drawn = number_by_words bits denominator in
    lists_that bits n (λ words. passes (λ j. nat_lt j numerator) (drawn words))
    ≡ numerator * lists_that bits n (λ words. passes (λ j. j == k) (drawn words))

-- The number of lists that choose an item is the number of lists that decide one number, times the
-- weight of the item.
abbrev pub WeightsInListsAreFair : Type 0
WeightsInListsAreFair =
    (bits : ℕ) (weights : List ℕ) (n i k : ℕ) → IsWordWidth bits → sum weights ≤ 2 ^ bits
    → i < length weights → k < sum weights
    → let drawn = number_by_words bits (sum weights) in
    lists_that bits n (λ words. passes (λ j. j == i) (option_map (item_at weights) (drawn words)))
    ≡ slice_index weights i * lists_that bits n (λ words. passes (λ j. j == k) (drawn words))
