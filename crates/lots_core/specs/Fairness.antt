-- The words of a seed, and what sequences (lists) of words draw. The sequences are counted: how
-- many of them draw a given list of places, or a given place.
use Rattle.std.specs.Prelude.{◌≡◌, ℕ, ◌*◌, ◌^◌, ◌<◌, ◌≤◌, ◌==◌, ◌&&◌, Bool, true, List, length, map, take, drop}
use Rattle.std.specs.Prelude.{replicate, slice_index_or, IsPermutation}
use Rattle.std.specs.List.{list_any}
use Rattle.std.specs.Cmp.Lexicographic.{pointwise}
use Rattle.nanorand_core.specs.shuffles.Arrangements.{rising}
use Rattle.nanorand_core.specs.values.Draws.{after_word, next_word, word_limit, words_from}
use Rattle.nanorand_core.specs.values.Values.{number_of}
use Rattle.nanorand_fairness.specs.Deals.{IsDeal, deal_sizes, dealt, deals_of}
use Rattle.nanorand_fairness.specs.InTurn.{numbers_in_turn, quotas}
use Rattle.nanorand_fairness.specs.Lists.{lists_that}
use Rattle.nanorand.specs.generators.ChaCha.{chacha_requests, initial_state}
use Rattle.lots_core.specs.Draws.{drawn, key_of, places_drawn, requests, start_of}

-- The first n bytes of a seed's keystream: the blocks of ChaCha with 20 rounds and the key of the
-- seed.
abbrev pub key_stream : List ℕ → ℕ → List ℕ
key_stream seed n = (chacha_requests 20).bytes (initial_state (key_of seed) (replicate 8 0)) n

-- The first n words of a seed, as its draws take them.
abbrev pub words_of : List ℕ → ℕ → List ℕ
words_of seed n = words_from (next_word requests 64) (after_word requests 64) n (start_of seed)

-- The words of a seed are its keystream, as little-endian words of 8 bytes without gaps.
abbrev pub WordsAreTheKeyStream : Type 0
WordsAreTheKeyStream =
    (seed : List ℕ) (n : ℕ) → words_of seed n
    ≡ map (λ i. number_of (take 8 (drop (i * 8) (key_stream seed (n * 8))))) (rising n)

-- The numbers below n, n - 1, .. that words draw in turn, one for each of `count` places. They end
-- where the words do, or after 128 rejected words in a row.
abbrev pub numbers_by : ℕ → ℕ → List ℕ → List ℕ
numbers_by count n words = numbers_in_turn 64 (deal_sizes count n) words

-- The places, of n, that words draw: number i swaps place i with a later one or with itself.
abbrev pub places_by : ℕ → ℕ → List ℕ → List ℕ
places_by count n words = dealt count n (numbers_by count n words)

-- A seed draws the places that its words draw. 128 words for each place are enough.
abbrev pub SeedsDrawByWords : Type 0
SeedsDrawByWords =
    (seed : List ℕ) (count n : ℕ) → count ≤ n → n ≤ 2 ^ 64
    → places_drawn seed count n ≡ places_by count n (words_of seed (word_limit * count))

-- The entrants drawn are those at the places drawn.
abbrev pub EntrantsByPlaces : Type 0 → Type 0
EntrantsByPlaces T =
    (seed : List ℕ) (count : ℕ) (entrants : List T) (other : T) → count ≤ length entrants
    → drawn seed count entrants
    ≡ map (λ place. slice_index_or entrants place other) (places_drawn seed count (length entrants))

-- The places drawn are `count` different ones of the n places.
abbrev pub PlacesAreDifferent : Type 0
PlacesAreDifferent =
    (seed : List ℕ) (count n : ℕ) → count ≤ n → IsDeal count n (places_drawn seed count n)

-- A draw of `count` entrants is the beginning of a draw of all entrants.
abbrev pub DrawsBeginAlike : Type 0 → Type 0
DrawsBeginAlike T =
    (seed : List ℕ) (count : ℕ) (entrants : List T) → count ≤ length entrants
    → drawn seed count entrants ≡ take count (drawn seed (length entrants) entrants)

-- A draw of all entrants is a permutation of them.
abbrev pub AllAreDrawn : Type 0 → Type 0
AllAreDrawn T =
    (seed : List ℕ) (entrants : List T) → IsPermutation entrants (drawn seed (length entrants) entrants)

-- How many of the lists of m words draw `count` of n places that pass a test. The words may include
-- rejected ones.
abbrev pub lists_drawing : ℕ → ℕ → ℕ → (List ℕ → Bool) → ℕ
lists_drawing m count n test =
    lists_that 64 m (λ words. (length (numbers_by count n words) == length (deal_sizes count n))
    && test (places_by count n words))

-- Every list of different places is drawn by the same number of lists of words, with one word for
-- each place: the product of floor(2^64 / n), floor(2^64 / (n - 1)), ..
abbrev pub ListsAreDrawnEquallyOften : Type 0
ListsAreDrawnEquallyOften =
    (count n : ℕ) (places : List ℕ) → count ≤ n → n ≤ 2 ^ 64 → IsDeal count n places
    → lists_drawing count count n (λ drawn. pointwise ◌==◌ drawn places)
    ≡ quotas 64 (deal_sizes count n)

-- Rejected words change nothing: of all lists of m words that draw, one in n (n - 1) .. (n - count
-- + 1) draws a given list of places.
abbrev pub RejectionsPreferNoList : Type 0
RejectionsPreferNoList =
    (m count n : ℕ) (places : List ℕ) → count ≤ n → n ≤ 2 ^ 64 → IsDeal count n places
    → deals_of count n * lists_drawing m count n (λ drawn. pointwise ◌==◌ drawn places)
    ≡ lists_drawing m count n (λ drawn. true)

-- Each place has the same share: of all lists of m words that draw, `count` in n draw a given
-- place.
abbrev pub SharesAreEqual : Type 0
SharesAreEqual =
    (m count n place : ℕ) → count ≤ n → n ≤ 2 ^ 64 → place < n
    → n * lists_drawing m count n (λ drawn. list_any (λ other. other == place) drawn)
    ≡ count * lists_drawing m count n (λ drawn. true)
