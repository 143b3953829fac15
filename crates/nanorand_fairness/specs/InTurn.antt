-- Numbers drawn one after another from one list of words, as shuffles and samples draw them.
use Rattle.std.specs.Prelude.{◌≡◌, ℕ, zero, suc, ◌*◌, ◌^◌, ◌<◌, ◌≤◌, ◌==◌, ◌&&◌, Bool, true, false, List, [], ◌∷◌}
use Rattle.std.specs.Prelude.{length, map, sum_by, Option, Some, None, if◌then◌else◌}
use Rattle.std.specs.List.{All, range_with_len}
use Rattle.nanorand_core.specs.values.Runs.{IsWordWidth, named, quota}
use Rattle.nanorand_core.specs.values.Draws.{word_limit}
use Rattle.nanorand_core.specs.values.Fairness.{swapped_word, swapped_number}
use Rattle.nanorand_fairness.specs.Lists.{lists_that}

-- What follows the next word of a draw: one value if the word names a number, another if it is
-- rejected.
abbrev pub by_word : {A : Type 0} → Option ℕ → (ℕ → A) → A → A
by_word (Some number) decides rejects = decides number
by_word None decides rejects = rejects

-- Draws of numbers below the sizes of a list, one after another, from one list of words of `bits`
-- bits. The first draw may take `left` more words, and each later one 128. The draws end when one
-- takes no number from its words, after the last size, or at the end of the words.
module _ (bits : ℕ) where
  -- The numbers drawn.
  abbrev pub numbers_from : List ℕ → ℕ → List ℕ → List ℕ
  numbers_from [] left words = []
  numbers_from (size ∷ sizes) zero words = []
  numbers_from (size ∷ sizes) (suc left) [] = []
  numbers_from (size ∷ sizes) (suc left) (word ∷ words) =
      by_word (named bits size word) (λ number. number ∷ numbers_from sizes word_limit words)
      (numbers_from (size ∷ sizes) left words)

  abbrev pub numbers_in_turn : List ℕ → List ℕ → List ℕ
  numbers_in_turn sizes words = numbers_from sizes word_limit words

  -- For each word taken, whether it names a number.
  abbrev pub deciding_from : List ℕ → ℕ → List ℕ → List Bool
  deciding_from [] left words = []
  deciding_from (size ∷ sizes) zero words = []
  deciding_from (size ∷ sizes) (suc left) [] = []
  deciding_from (size ∷ sizes) (suc left) (word ∷ words) =
      by_word (named bits size word) (λ number. true ∷ deciding_from sizes word_limit words)
      (false ∷ deciding_from (size ∷ sizes) left words)

  abbrev pub deciding_in_turn : List ℕ → List ℕ → List Bool
  deciding_in_turn sizes words = deciding_from sizes word_limit words

  -- The number of lists of n words that draw a number below each size and whose numbers pass a
  -- test.
  abbrev pub word_lists_that : ℕ → List ℕ → (List ℕ → Bool) → ℕ
  word_lists_that n sizes test =
      lists_that bits n (λ words. let numbers = numbers_in_turn sizes words in
      length numbers == length sizes && test numbers)

  -- The product, over the sizes, of the number of words that name one number.
  abbrev pub quotas : List ℕ → ℕ
  quotas [] = 1
  quotas (size ∷ sizes) = quota bits size * quotas sizes

-- The number of lists of numbers, one below each size, that pass a test.
abbrev pub number_lists_that : List ℕ → (List ℕ → Bool) → ℕ
number_lists_that [] test = if test [] then 1 else 0
number_lists_that (size ∷ sizes) test =
    sum_by (λ number. number_lists_that sizes (λ numbers. test (number ∷ numbers)))
    (range_with_len 0 size)

-- Each size is from 1 to 2^bits.
abbrev pub AreSizes : ℕ → List ℕ → Type 0
AreSizes bits sizes = All (λ size. (1 ≤ size) × (size ≤ 2 ^ bits)) sizes

-- Of the lists with one word for each size, the same number draws every list of numbers: the
-- product of the quotas. So the number of lists of words whose numbers pass a test is this product,
-- times the number of lists of numbers that pass it.
abbrev pub NumbersInTurnAreFair : Type 0
NumbersInTurnAreFair =
    (bits : ℕ) (sizes : List ℕ) (test : List ℕ → Bool) → IsWordWidth bits → AreSizes bits sizes
    → word_lists_that bits (length sizes) sizes test
    ≡ number_lists_that sizes test * quotas bits sizes

-- The same with rejections: of all lists of n words, the same number draws every list of numbers.
abbrev pub RejectionsPreferNothing : Type 0
RejectionsPreferNothing =
    (bits n : ℕ) (sizes : List ℕ) (test : List ℕ → Bool) → IsWordWidth bits → AreSizes bits sizes
    → word_lists_that bits n sizes test * number_lists_that sizes (λ numbers. true)
    ≡ number_lists_that sizes test * word_lists_that bits n sizes (λ numbers. true)

-- An exchange of two numbers below a size.
pub record Exchange : Type 0 where
  pub size : ℕ
  pub one : ℕ
  pub other : ℕ

-- The exchange can be made on words of `bits` bits.
pub record IsExchange (bits : ℕ) (e : Exchange) : Type 0 where
  pub fits : e.size ≤ 2 ^ bits
  pub one : e.one < e.size
  pub other : e.other < e.size

-- The words with the runs of both numbers exchanged; the words of each draw are changed by the
-- exchange of that draw. Words that no draw takes are unchanged.
module _ (bits : ℕ) where
  abbrev pub swapped_from : List Exchange → ℕ → List ℕ → List ℕ
  swapped_from [] left words = words
  swapped_from (e ∷ exchanges) zero words = words
  swapped_from (e ∷ exchanges) (suc left) [] = []
  swapped_from (e ∷ exchanges) (suc left) (word ∷ words) =
      swapped_word bits e.size e.one e.other word
      ∷ by_word (named bits e.size word) (λ number. swapped_from exchanges word_limit words)
      (swapped_from (e ∷ exchanges) left words)

  abbrev pub swapped_in_turn : List Exchange → List ℕ → List ℕ
  swapped_in_turn exchanges words = swapped_from exchanges word_limit words

-- The numbers, each exchanged by the exchange of its draw.
abbrev pub swapped_numbers : List Exchange → List ℕ → List ℕ
swapped_numbers [] numbers = numbers
swapped_numbers (e ∷ exchanges) [] = []
swapped_numbers (e ∷ exchanges) (number ∷ numbers) =
    swapped_number e.one e.other number ∷ swapped_numbers exchanges numbers

-- Exchanging runs word by word is an involution on lists of words. It keeps the length of the list
-- and which words are rejected, and exchanges the numbers drawn.
pub record SwapsInTurn (bits : ℕ) (exchanges : List Exchange) (words : List ℕ) : Type 0 where
  pub fits : All (λ word. word < 2 ^ bits) words
      → All (λ word. word < 2 ^ bits) (swapped_in_turn bits exchanges words)
  pub keeps_length : length (swapped_in_turn bits exchanges words) ≡ length words
  pub back : swapped_in_turn bits exchanges (swapped_in_turn bits exchanges words) ≡ words
  pub deciding :
      deciding_in_turn bits (map (λ e. e.size) exchanges) (swapped_in_turn bits exchanges words)
      ≡ deciding_in_turn bits (map (λ e. e.size) exchanges) words
  pub numbers :
      numbers_in_turn bits (map (λ e. e.size) exchanges) (swapped_in_turn bits exchanges words)
      ≡ swapped_numbers exchanges (numbers_in_turn bits (map (λ e. e.size) exchanges) words)

abbrev pub NoListOfNumbersIsPreferred : Type 0
NoListOfNumbersIsPreferred =
    (bits : ℕ) (exchanges : List Exchange) (words : List ℕ) → IsWordWidth bits
    → All (IsExchange bits) exchanges → SwapsInTurn bits exchanges words
