-- Known answers: numbers drawn in turn, deals, samples and the words taken, for small lists, and
-- one draw at its limit.
use Rattle.std.specs.Prelude.{◌≡◌, ℕ, ◌==◌, true, false, List, [], ◌∷◌, ◌++◌, length, map, replicate, refl, Some, None}
use Rattle.std.specs.Cmp.Lexicographic.{pointwise}
use Rattle.nanorand_core.specs.values.Runs.{named}
use Rattle.nanorand_fairness.specs.Lists.{sum_over_lists, number_by_words, words_taken}
use Rattle.nanorand_fairness.specs.InTurn.{Exchange, numbers_in_turn, deciding_in_turn, word_lists_that, quotas}
use Rattle.nanorand_fairness.specs.InTurn.{number_lists_that, swapped_in_turn, swapped_numbers}
use Rattle.std.specs.List.{list_any}
use Rattle.nanorand_fairness.specs.Deals.{choices_by, deal_sizes, dealt, deals_of}
use Rattle.nanorand_fairness.specs.FullShuffles.{choices_making}
use Rattle.nanorand_core.specs.samples.Samples.{holds}
use Rattle.nanorand_fairness.specs.Samples.{sample_by, sample_sizes}
use Rattle.nanorand_fairness.specs.Reservoirs.{later_sizes, reservoir_by}

-- A number below 3, then one below 2. The byte 0 is rejected below 3, and the last byte is not
-- drawn.
abbrev bytes : List ℕ
bytes = 0 ∷ 1 ∷ 255 ∷ 7 ∷ []

two_numbers : numbers_in_turn 8 (3 ∷ 2 ∷ []) bytes ≡ 0 ∷ 1 ∷ []
unfolding named
two_numbers = refl

deciding_bytes : deciding_in_turn 8 (3 ∷ 2 ∷ []) bytes ≡ false ∷ true ∷ true ∷ []
unfolding named
deciding_bytes = refl

-- The draws end where the words end.
words_end : numbers_in_turn 8 (3 ∷ 2 ∷ []) (0 ∷ 1 ∷ []) ≡ 0 ∷ []
unfolding named
words_end = refl

-- 127 rejected words, and then 128, after which the draw fails and all draws end.
last_word_decides : numbers_in_turn 8 (3 ∷ 2 ∷ []) (replicate 127 0 ++ 255 ∷ 0 ∷ []) ≡ 2 ∷ 0 ∷ []
unfolding named
last_word_decides = refl

draw_refused : numbers_in_turn 8 (3 ∷ 2 ∷ []) (replicate 128 0 ++ 255 ∷ 0 ∷ []) ≡ []
unfolding named
draw_refused = refl

words_of_refusal : length (deciding_in_turn 8 (3 ∷ 2 ∷ []) (replicate 128 0 ++ 255 ∷ 0 ∷ [])) ≡ 128
unfolding named
words_of_refusal = refl

-- 0 and 2 are exchanged in the first draw, 0 and 1 in the second. The rejected byte and the last
-- one stay.
abbrev exchanges : List Exchange
exchanges = record { size = 3; one = 0; other = 2 } ∷ record { size = 2; one = 0; other = 1 } ∷ []

swapped_bytes : swapped_in_turn 8 exchanges bytes ≡ 0 ∷ 171 ∷ 127 ∷ 7 ∷ []
unfolding named
swapped_bytes = refl

swapped_results : numbers_in_turn 8 (3 ∷ 2 ∷ []) (swapped_in_turn 8 exchanges bytes) ≡ 2 ∷ 0 ∷ []
unfolding named
swapped_results = refl

exchanged_numbers : swapped_numbers exchanges (0 ∷ 1 ∷ []) ≡ 2 ∷ 0 ∷ []
exchanged_numbers = refl

-- 85 bytes draw each number below 3, and 128 bytes draw each number below 2.
bytes_of_each : quotas 8 (3 ∷ 2 ∷ []) ≡ 10880
bytes_of_each = refl

lists_of_numbers : number_lists_that (3 ∷ 2 ∷ []) (λ numbers. true) ≡ 6
lists_of_numbers = refl

one_byte : word_lists_that 8 1 (3 ∷ []) (pointwise ◌==◌ (2 ∷ [])) ≡ 85
unfolding named sum_over_lists
one_byte = refl

-- There are so few words of two bits that all lists can be enumerated. Below 3, the word 0 is
-- rejected, and each number is drawn by one word. Below 2, each number is drawn by two words.
abbrev six : List (List ℕ)
six = (0 ∷ 0 ∷ []) ∷ (0 ∷ 1 ∷ []) ∷ (1 ∷ 0 ∷ []) ∷ (1 ∷ 1 ∷ []) ∷ (2 ∷ 0 ∷ []) ∷ (2 ∷ 1 ∷ []) ∷ []

two_words : map (λ wanted. word_lists_that 2 2 (3 ∷ 2 ∷ []) (pointwise ◌==◌ wanted)) six ≡ 2 ∷ 2 ∷ 2 ∷ 2 ∷ 2 ∷ 2 ∷ []
unfolding named sum_over_lists
two_words = refl

-- Of the 64 lists of three words, only the four that begin with 0, 0 do not draw two numbers.
three_words : map (λ wanted. word_lists_that 2 3 (3 ∷ 2 ∷ []) (pointwise ◌==◌ wanted)) six ≡ 10 ∷ 10 ∷ 10 ∷ 10 ∷ 10 ∷ 10 ∷ []
unfolding named sum_over_lists
three_words = refl

-- The numbers 2, 0, 0 choose the indices 2, 1, 2, which reverses 0, 1, 2.
three_choices : choices_by 0 (2 ∷ 0 ∷ 0 ∷ []) ≡ 2 ∷ 1 ∷ 2 ∷ []
three_choices = refl

whole_shuffle : dealt 3 3 (2 ∷ 0 ∷ 0 ∷ []) ≡ 2 ∷ 1 ∷ 0 ∷ []
whole_shuffle = refl

-- Two of four items: 3 moves to the front, and then 2.
two_of_four : dealt 2 4 (3 ∷ 1 ∷ []) ≡ 3 ∷ 2 ∷ []
two_of_four = refl

sizes_of_a_deal : deal_sizes 3 5 ≡ 5 ∷ 4 ∷ 3 ∷ []
sizes_of_a_deal = refl

-- Of the six lists of numbers for a shuffle of three, one makes each order.
all_shuffles : number_lists_that (deal_sizes 3 3) (λ numbers. true) ≡ 6
all_shuffles = refl

one_order : number_lists_that (deal_sizes 3 3) (λ numbers. pointwise ◌==◌ (dealt 3 3 numbers) (1 ∷ 2 ∷ 0 ∷ [])) ≡ 1
one_order = refl

one_hand : number_lists_that (deal_sizes 2 4) (λ numbers. pointwise ◌==◌ (dealt 2 4 numbers) (3 ∷ 0 ∷ [])) ≡ 1
one_hand = refl

no_double : number_lists_that (deal_sizes 2 4) (λ numbers. pointwise ◌==◌ (dealt 2 4 numbers) (3 ∷ 3 ∷ [])) ≡ 0
no_double = refl

-- One of three items: each index is dealt by one of the three lists of numbers, and no other number
-- is dealt.
shares_of_one : map (λ index. number_lists_that (deal_sizes 1 3)
    (λ numbers. list_any (λ item. item == index) (dealt 1 3 numbers))) (0 ∷ 1 ∷ 2 ∷ 3 ∷ []) ≡ 1 ∷ 1 ∷ 1 ∷ 0 ∷ []
shares_of_one = refl

-- Two of three items: each index is dealt by four of the six lists.
shares_of_two : map (λ index. number_lists_that (deal_sizes 2 3)
    (λ numbers. list_any (λ item. item == index) (dealt 2 3 numbers))) (0 ∷ 1 ∷ 2 ∷ 3 ∷ []) ≡ 4 ∷ 4 ∷ 4 ∷ 0 ∷ []
shares_of_two = refl

lists_of_two : number_lists_that (deal_sizes 2 3) (λ numbers. true) ≡ 6
lists_of_two = refl

deals_of_three : deals_of 3 5 ≡ 60
deals_of_three = refl

-- The same for lists of three words of two bits, of which some are rejected: each index is dealt by
-- 40 of 60 lists.
shares_of_words : map (λ index. word_lists_that 2 3 (deal_sizes 2 3)
    (λ numbers. list_any (λ item. item == index) (dealt 2 3 numbers))) (0 ∷ 1 ∷ 2 ∷ 3 ∷ []) ≡ 40 ∷ 40 ∷ 40 ∷ 0 ∷ []
unfolding named sum_over_lists
shares_of_words = refl

words_of_two : word_lists_that 2 3 (deal_sizes 2 3) (λ numbers. true) ≡ 60
unfolding named sum_over_lists
words_of_two = refl

-- Choices from all indices: of the 27 lists, three orders are made by five lists each, and the
-- other three by four each.
made_by_five : map choices_making ((0 ∷ 2 ∷ 1 ∷ []) ∷ (1 ∷ 0 ∷ 2 ∷ []) ∷ (1 ∷ 2 ∷ 0 ∷ []) ∷ []) ≡ 5 ∷ 5 ∷ 5 ∷ []
made_by_five = refl

made_by_four : map choices_making ((0 ∷ 1 ∷ 2 ∷ []) ∷ (2 ∷ 0 ∷ 1 ∷ []) ∷ (2 ∷ 1 ∷ 0 ∷ []) ∷ []) ≡ 4 ∷ 4 ∷ 4 ∷ []
made_by_four = refl

-- With two items, each order is made by two of the four lists.
made_by_two : map choices_making ((0 ∷ 1 ∷ []) ∷ (1 ∷ 0 ∷ []) ∷ []) ≡ 2 ∷ 2 ∷ []
made_by_two = refl

-- Three of five numbers: 2 joins, then 3 in place of a second 2, then 0.
sample_of_three : sample_by 2 (2 ∷ 2 ∷ 0 ∷ []) [] ≡ 2 ∷ 3 ∷ 0 ∷ []
sample_of_three = refl

sizes_of_a_sample : sample_sizes 3 5 ≡ 3 ∷ 4 ∷ 5 ∷ []
sizes_of_a_sample = refl

-- Three of five items: item 3 replaces item 1, and item 4 draws no slot.
reservoir_of_three : reservoir_by 3 (1 ∷ 4 ∷ []) ≡ 0 ∷ 3 ∷ 2 ∷ []
reservoir_of_three = refl

sizes_of_a_reservoir : later_sizes 3 5 ≡ 4 ∷ 5 ∷ []
sizes_of_a_reservoir = refl

-- One of three items: of the lists of two words of two bits, each item is in the sample for four of
-- twelve. Of the lists of three words, some of which are rejected, it is for 20 of 60.
reservoirs_of_words : map (λ item. word_lists_that 2 2 (later_sizes 1 3) (λ slots. holds item (reservoir_by 1 slots))) (0 ∷ 1 ∷ 2 ∷ 3 ∷ []) ≡ 4 ∷ 4 ∷ 4 ∷ 0 ∷ []
unfolding named sum_over_lists
reservoirs_of_words = refl

reservoirs_with_rejections : map (λ item. word_lists_that 2 3 (later_sizes 1 3) (λ slots. holds item (reservoir_by 1 slots))) (0 ∷ 1 ∷ 2 ∷ []) ≡ 20 ∷ 20 ∷ 20 ∷ []
unfolding named sum_over_lists
reservoirs_with_rejections = refl

-- Below 3, the byte 0 is rejected and the byte 9 decides. If all bytes are 0, all are taken.
taken_to_the_deciding_word : words_taken 8 3 (0 ∷ 9 ∷ 7 ∷ []) ≡ 2
unfolding named
taken_to_the_deciding_word = refl

taken_in_vain : words_taken 8 3 (0 ∷ 0 ∷ []) ≡ 2
unfolding named
taken_in_vain = refl

-- The last of 128 words still decides. After 128 rejected words, no further word is taken.
last_word_of_the_limit : number_by_words 8 3 (replicate 127 0 ++ 255 ∷ 0 ∷ []) ≡ Some 2
unfolding named
last_word_of_the_limit = refl

draw_at_its_limit : number_by_words 8 3 (replicate 128 0 ++ 255 ∷ 0 ∷ []) ≡ None
unfolding named
draw_at_its_limit = refl

taken_by_the_last : words_taken 8 3 (replicate 127 0 ++ 255 ∷ 0 ∷ []) ≡ 128
unfolding named
taken_by_the_last = refl

taken_in_a_refusal : words_taken 8 3 (replicate 128 0 ++ 255 ∷ 0 ∷ []) ≡ 128
unfolding named
taken_in_a_refusal = refl
