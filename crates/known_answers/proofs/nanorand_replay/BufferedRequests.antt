-- Known answers: requests to buffered generators, and the bytes that lists of calls ask for.
use Rattle.std.specs.Prelude.{◌≡◌, ℕ, List, [], ◌∷◌, refl}
use Rattle.std.specs.List.{range_with_len}
use Rattle.nanorand_core.specs.generators.Blocks.{taken, plain_after}
use Rattle.nanorand_replay.specs.generators.Buffered.{Buffered, buffer_of, buffered_block, buffered_step, buffered_taken, buffered_after}
use Rattle.nanorand_core.specs.values.Values.{number_of, values_from}
use Rattle.known_answers.proofs.nanorand_core.SmallGenerators.{next_count, rising_block, steps, script}
use Rattle.std.proofs.Common.{◌+◌, ◌-◌, ◌<◌, Ok, length, map, min, ap, ◌∙◌, arith}
use Rattle.std.specs.declared.ops.Bound.TheVariants.{Included, Excluded}
use Rattle.nanorand_core.specs.values.Runs.{named}
use Rattle.nanorand_core.specs.values.Range.{unsigned_number, unsigned_range, range_within}
use Rattle.nanorand_core.specs.values.Draws.{words_from, value_drawn, left_by, left_after}
use Rattle.nanorand_replay.specs.replay.Asked.{asked, asked_by_range, asked_by_places, asked_by_shuffle, words_drawn}
use Rattle.nanorand_core.specs.shuffles.Shuffles.{from_itself, partner_drawn}
use Rattle.nanorand_replay.specs.declared.replay.Call.TheVariants.{Gen, Range}
use Rattle.nanorand_core.proofs.lemmas.shuffles.PartnerLemmas.{numbers_between, partner_between}
use Rattle.known_answers.proofs.nanorand_replay.Replays.{four_calls, items_7_to_9, third_block_on}
use Rattle.nanorand_replay.specs.declared.replay.Kind.TheVariants as kinds
use Rattle.nanorand_replay.specs.declared.replay.Span.TheVariants as spans

abbrev kept_taken : ℕ → Buffered ℕ → ℕ → List ℕ
kept_taken size = buffered_taken (rising_block size) next_count size

abbrev kept_after : ℕ → Buffered ℕ → ℕ → Buffered ℕ
kept_after size = buffered_after (rising_block size) next_count size

abbrev bytes_and : ℕ → ℕ → ℕ → Buffered ℕ
bytes_and from count drawn = buffer_of (range_with_len from count) drawn

-- Three values of one byte each start a block each. Three bytes of one request come from one block.
three_values : values_from (λ g. number_of (steps.bytes g 1)) (λ g. steps.after g 1) 3 0 ≡ 0 ∷ 8 ∷ 16 ∷ []
unfolding taken
three_values = refl

three_bytes : steps.bytes 0 3 ≡ 0 ∷ 1 ∷ 2 ∷ []
unfolding taken
three_bytes = refl

byte_after_nine : steps.bytes (steps.after 0 9) 1 ≡ 16 ∷ []
unfolding taken
byte_after_nine = refl

-- Five bytes take one block and leave three bytes buffered. A whole block leaves none.
five_to_seven_kept : kept_after 8 (buffer_of [] 0) 5 ≡ buffer_of (5 ∷ 6 ∷ 7 ∷ []) 1
unfolding buffered_after
five_to_seven_kept = refl

none_kept : kept_after 8 (buffer_of [] 0) 8 ≡ buffer_of [] 1
unfolding buffered_after
none_kept = refl

-- Four buffered bytes come before those of the next block.
wide_value_goes_on : number_of (kept_taken 8 (bytes_and 4 4 1) 8) ≡ 0x0b0a090807060504
unfolding buffered_taken
wide_value_goes_on = refl

four_kept_again : kept_after 8 (bytes_and 4 4 1) 8 ≡ bytes_and 12 4 2
unfolding buffered_after
four_kept_again = refl

-- Requests of one byte, of twenty bytes, of one byte, and of none.
first_byte : kept_taken 8 (buffer_of [] 0) 1 ≡ 0 ∷ []
unfolding buffered_taken
first_byte = refl

seven_kept : kept_after 8 (buffer_of [] 0) 1 ≡ bytes_and 1 7 1
unfolding buffered_after
seven_kept = refl

twenty_bytes : kept_taken 8 (bytes_and 1 7 1) 20 ≡ range_with_len 1 20
unfolding buffered_taken
twenty_bytes = refl

three_kept_of_three_blocks : kept_after 8 (bytes_and 1 7 1) 20 ≡ bytes_and 21 3 3
unfolding buffered_after
three_kept_of_three_blocks = refl

next_byte : kept_taken 8 (bytes_and 21 3 3) 1 ≡ 21 ∷ []
unfolding buffered_taken
next_byte = refl

two_kept : kept_after 8 (bytes_and 21 3 3) 1 ≡ buffer_of (22 ∷ 23 ∷ []) 3
unfolding buffered_after
two_kept = refl

nothing_asked : kept_after 8 (bytes_and 22 2 3) 0 ≡ bytes_and 22 2 3
unfolding buffered_after
nothing_asked = refl

-- A buffer around a buffer with seven buffered bytes draws one block of eight bytes from it.
abbrev inner_block : Buffered ℕ → List ℕ
inner_block = buffered_block (rising_block 8) next_count 8

abbrev inner_step : Buffered ℕ → Buffered ℕ
inner_step = buffered_step (rising_block 8) next_count 8

byte_of_two_buffers : buffered_taken inner_block inner_step 8 (buffer_of [] (bytes_and 1 7 1)) 1 ≡ 1 ∷ []
unfolding buffered_taken buffered_after
byte_of_two_buffers = refl

seven_kept_twice : buffered_after inner_block inner_step 8 (buffer_of [] (bytes_and 1 7 1)) 1 ≡ buffer_of (range_with_len 2 7) (bytes_and 9 7 2)
unfolding buffered_taken buffered_after
seven_kept_twice = refl

-- Blocks of one byte, plain and buffered.
two_blocks_of_one : number_of (taken (rising_block 1) next_count 0 2) ≡ 0x0100
unfolding taken
two_blocks_of_one = refl

two_kept_blocks_of_one : number_of (kept_taken 1 (buffer_of [] 0) 2) ≡ 0x0100
unfolding buffered_taken
two_kept_blocks_of_one = refl

none_kept_of_one : kept_after 1 (buffer_of [] 0) 2 ≡ buffer_of [] 2
unfolding buffered_after
none_kept_of_one = refl

-- Blocks of 64 bytes, plain and buffered.
second_of_64 : taken (rising_block 64) next_count (plain_after next_count 64 0 1) 1 ≡ 64 ∷ []
unfolding taken
second_of_64 = refl

second_kept_of_64 : kept_taken 64 (kept_after 64 (buffer_of [] 0) 1) 1 ≡ 1 ∷ []
unfolding buffered_taken buffered_after
second_kept_of_64 = refl

rest_of_64 : kept_after 64 (kept_after 64 (buffer_of [] 0) 1) 1 ≡ bytes_and 2 62 1
unfolding buffered_after
rest_of_64 = refl

-- A value asks for its size, a range for its words up to the deciding one or for all 128, and an
-- empty range for nothing.
values_ask : asked steps 0 [] (Gen kinds.U8 ∷ Gen kinds.I128 ∷ Gen kinds.Bool ∷ []) ≡ 18
values_ask = refl

second_word_asks : asked steps 0 [] (Range (spans.U8 (Included 10) (Included 12)) ∷ []) ≡ 2
unfolding named range_within words_from words_drawn taken
second_word_asks = refl

all_words_ask : asked (script []) 0 [] (Range (spans.U8 (Included 10) (Included 12)) ∷ Gen kinds.U8 ∷ []) ≡ 129
unfolding named range_within words_from words_drawn left_by left_after taken
all_words_ask = refl

nothing_asks : asked steps 0 [] (Range (spans.U8 (Included 5) (Excluded 5)) ∷ []) ≡ 0
unfolding named range_within words_from words_drawn taken
nothing_asks = refl

-- A shuffle of three items with rising bytes asks for one word of eight bytes for each index.
word_asks : (g i : ℕ) → i < 3
    → asked_by_range steps 64 (unsigned_range 64 (Included i) (Excluded 3)) g
    ≡ asked_by_range steps 64 (map unsigned_number (range_with_len i (3 - i))) g
word_asks g i some = ap (λ numbers. asked_by_range steps 64 numbers g) (numbers_between i 3 some (omega arith))

first_asks : asked_by_range steps 64 (unsigned_range 64 (Included 0) (Excluded 3)) 2 ≡ 8
unfolding named words_from words_drawn taken
first_asks = word_asks 2 0 (omega arith) ∙ refl

second_asks : asked_by_range steps 64 (unsigned_range 64 (Included 1) (Excluded 3)) 3 ≡ 8
unfolding named words_from words_drawn taken
second_asks = word_asks 3 1 (omega arith) ∙ refl

third_asks : asked_by_range steps 64 (unsigned_range 64 (Included 2) (Excluded 3)) 4 ≡ 8
unfolding named words_from words_drawn taken
third_asks = word_asks 4 2 (omega arith) ∙ refl

after_first : partner_drawn steps from_itself 3 0 2 ≡ (Ok 0, 3)
unfolding named words_from value_drawn left_by left_after taken
after_first = partner_between steps from_itself 3 0 2 (omega arith) (omega arith) ∙ refl

after_second : partner_drawn steps from_itself 3 1 3 ≡ (Ok 1, 4)
unfolding named words_from value_drawn left_by left_after taken
after_second = partner_between steps from_itself 3 1 3 (omega arith) (omega arith) ∙ refl

shuffle_asks : asked_by_shuffle steps from_itself 3 2 ≡ 24
unfolding asked_by_places
shuffle_asks =
    ap (λ choices. asked_by_places steps from_itself 3 0 (min 3 (length choices + 1)) 2) third_block_on.chosen
    ∙ ap (λ n. n + asked_by_places steps from_itself 3 1 2 (partner_drawn steps from_itself 3 0 2).1) first_asks
    ∙ ap (λ drawn. 8 + asked_by_places steps from_itself 3 1 2 drawn.1) after_first
    ∙ ap (λ n. 8 + (n + asked_by_places steps from_itself 3 2 1 (partner_drawn steps from_itself 3 1 3).1)) second_asks
    ∙ ap (λ drawn. 8 + (8 + asked_by_places steps from_itself 3 2 1 drawn.1)) after_second
    ∙ ap (λ n. 8 + (8 + (n + 0))) third_asks

-- A byte, a range that is decided by its first word, a shuffle of three items and a truth value.
four_calls_ask : asked steps 0 items_7_to_9 four_calls ≡ 27
unfolding named range_within words_from words_drawn value_drawn left_by left_after taken
four_calls_ask = ap (λ n. 1 + (1 + (n + (1 + 0)))) shuffle_asks
