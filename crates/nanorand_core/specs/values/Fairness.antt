-- Fairness: every number is named by the same number of words, which are random integers of N bits,
-- and no list of words prefers a number.
use Rattle.std.specs.Prelude.{◌≡◌, ℕ, ℤ, ◌+◌, ◌-◌, ◌*◌, ◌^◌, ◌<◌, ◌≤◌, ◌==◌, Bool, false, List, Option, Some, None}
use Rattle.std.specs.Prelude.{is_some, true, ◌↔◌, length, map, count_by, slice_get, option_map, option_and_then}
use Rattle.std.specs.Prelude.{if◌then◌else◌, nat_le, nat_lt, int_le, int_lt}
use Rattle.std.specs.Ordering.{int_eq}
use Rattle.std.specs.List.{All, range_with_len}
use Rattle.std.specs.Option.{option_map_or}
use Rattle.std.specs.declared.ops.Bound.{Bound}
use Rattle.nanorand_core.specs.values.Runs.{IsWordWidth, Names, named, is_in_run, quota, rejected, first_word, words_that}
use Rattle.nanorand_core.specs.values.Range.{Admits, IsNumber, signed_number, unsigned_range, signed_range}
use Rattle.nanorand_core.specs.values.Draws.{deciding_place, decided}

-- The words are shared equally. The runs of the numbers below the size lie within the 2^bits words,
-- do not overlap, and have `quota` words each, at least one. All other words are rejected; they are
-- fewer than half of all words. `named` computes exactly what `Names` states.
pub record SharesWords (bits size : ℕ) : Type 0 where
  pub within : (k : ℕ) → k < size → first_word bits size k + quota bits size ≤ 2 ^ bits
  pub apart : (word j k : ℕ) → Names bits size word j → Names bits size word k → j ≡ k
  pub counted : (k : ℕ) → k < size
      → words_that bits (λ word. is_in_run bits size word k) ≡ quota bits size
  pub naming : (word k : ℕ) → (named bits size word ≡ Some k) ↔ Names bits size word k
  pub some : 1 ≤ quota bits size
  pub all : 2 ^ bits ≡ size * quota bits size + rejected bits size
  pub few : 2 * rejected bits size < 2 ^ bits

-- The word with the runs of j and k exchanged: a word in one of them becomes the word at the same
-- offset in the other, and every other word stays.
abbrev pub swapped_word : ℕ → ℕ → ℕ → ℕ → ℕ → ℕ
swapped_word bits size j k word =
    if is_in_run bits size word j then first_word bits size k + (word - first_word bits size j)
    else if is_in_run bits size word k then first_word bits size j + (word - first_word bits size k)
    else word

-- The number with j and k exchanged.
abbrev pub swapped_number : ℕ → ℕ → ℕ → ℕ
swapped_number j k n = if n == j then k else if n == k then j else n

-- Exchanging two runs word by word is an involution on lists of words. It keeps the index of the
-- deciding word, exchanges the results j and k, and leaves every other result, and every failure,
-- unchanged.
pub record SwapsRuns (bits size j k : ℕ) (words : List ℕ) : Type 0 where
  pub fits : All (λ word. word < 2 ^ bits) words
      → All (λ word. word < 2 ^ bits) (map (swapped_word bits size j k) words)
  pub back : map (swapped_word bits size j k) (map (swapped_word bits size j k) words) ≡ words
  pub place : deciding_place bits size (map (swapped_word bits size j k) words)
      ≡ deciding_place bits size words
  pub result : decided bits size (map (swapped_word bits size j k) words)
      ≡ option_map (swapped_number j k) (decided bits size words)

-- Whether there is a number and it passes the test.
abbrev pub passes : (ℕ → Bool) → Option ℕ → Bool
passes test (Some k) = test k
passes test None = false

-- Fairness, part one of four, for every word width and every size from 1 to 2^bits: the runs share
-- the words equally.
abbrev pub RunsAreFair : Type 0
RunsAreFair =
    (bits size : ℕ) → IsWordWidth bits → 1 ≤ size → size ≤ 2 ^ bits → SharesWords bits size

-- Part two: in every list of words, exchanging the runs of two numbers exchanges these two results
-- and nothing else.
abbrev pub NoNumberIsPreferred : Type 0
NoNumberIsPreferred =
    (bits size j k : ℕ) → IsWordWidth bits → 1 ≤ size → size ≤ 2 ^ bits → j < size → k < size
    → (words : List ℕ) → SwapsRuns bits size j k words

-- Part three: an event, a set of numbers given by a test, is named by `quota` words for each of its
-- numbers.
abbrev pub EventsAreFair : Type 0
EventsAreFair =
    (bits size : ℕ) (test : ℕ → Bool) → IsWordWidth bits → 1 ≤ size → size ≤ 2 ^ bits
    → words_that bits (λ word. passes test (named bits size word))
    ≡ count_by test (range_with_len 0 size) * quota bits size

-- Part four: a size that divides 2^bits rejects no word.
abbrev pub DivisorsRejectNothing : Type 0
DivisorsRejectNothing =
    (bits size word : ℕ) → IsWordWidth bits → 1 ≤ size → rejected bits size ≡ 0 → word < 2 ^ bits
    → is_some (named bits size word) ≡ true

-- The number of the list that a word of `bits` bits gives: the word names an index of the list,
-- counted from 0, and gives the number at that index. A rejected word gives none.
abbrev pub number_given : {T : Type 0} → ℕ → List T → ℕ → Option T
number_given bits numbers word =
    option_and_then (slice_get numbers) (named bits (length numbers) word)

-- The number of the 2^bits words that give a number that passes the test.
abbrev pub words_giving : {T : Type 0} → ℕ → List T → (T → Bool) → ℕ
words_giving bits numbers test =
    words_that bits (λ word. option_map_or test (number_given bits numbers word) false)

-- Ranges are fair, part one of three, for every word width and every two bounds of the unsigned
-- type of that width: each number that both bounds admit is given by `quota` words. The length of
-- the range is the count of its numbers.
abbrev pub UnsignedRangesAreFair : Type 0
UnsignedRangesAreFair =
    (bits : ℕ) (low high : Bound ℕ) (x : ℕ) → IsWordWidth bits → x < 2 ^ bits
    → Admits nat_le nat_lt low high x →
    let numbers = unsigned_range bits low high in
    words_giving bits numbers (λ y. y == x) ≡ quota bits (length numbers)

-- Part two: the same for the signed type.
abbrev pub SignedRangesAreFair : Type 0
SignedRangesAreFair =
    (bits : ℕ) (low high : Bound ℤ) (x : ℤ) → IsWordWidth bits
    → IsNumber bits (signed_number bits) x → Admits int_le int_lt low high x →
    let numbers = signed_range bits low high in
    words_giving bits numbers (λ y. int_eq y x) ≡ quota bits (length numbers)

-- Part three: in every list of 1 to 2^bits items, which may be numbers or other values, an event is
-- given by a test. The number of words that give it is `quota` times the number of indices whose
-- items pass the test.
abbrev pub EventsOfListsAreFair : Type 0 → Type 0
EventsOfListsAreFair T =
    (bits : ℕ) (numbers : List T) (test : T → Bool) → IsWordWidth bits
    → 1 ≤ length numbers → length numbers ≤ 2 ^ bits
    → words_giving bits numbers test ≡ count_by test numbers * quota bits (length numbers)
