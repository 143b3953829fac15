-- Known answers: values, ranges and whole replays, plain and buffered, also after errors. 128 words
-- of zeros are drawn first.
use Rattle.std.specs.Prelude.{◌≡◌, ℕ, List, [], ◌∷◌, true, refl, replicate}
use Rattle.std.specs.declared.ops.Bound.TheVariants.{Included, Excluded}
use Rattle.nanorand_core.specs.generators.Blocks.{taken, Requests}
use Rattle.nanorand_core.specs.values.Runs.{named}
use Rattle.nanorand_core.specs.values.Range.{range_within}
use Rattle.nanorand_core.specs.values.Draws.{value_drawn, left_by, left_after, words_from}
use Rattle.nanorand_replay.specs.generators.Buffered.{Buffered, buffer_of, buffered_taken, buffered_after}
use Rattle.nanorand_replay.specs.replay.Replay.{Replay, replayed, Outcome, outcome, shuffle_call_answer}
use Rattle.nanorand_replay.specs.declared.replay.Call.{Call}
use Rattle.nanorand_replay.specs.declared.replay.Call.TheVariants.{Gen, Range, Shuffle}
use Rattle.nanorand_replay.specs.declared.replay.Answer.TheVariants.{Unsigned, Truth, Empty, Exhausted, Shuffled}
use Rattle.known_answers.proofs.nanorand_core.SmallGenerators.{steps, script, steps_buffered, script_buffered}
use Rattle.std.proofs.Common.{◌++◌, Ok, Err, ap, ◌∙◌, arith}
use Rattle.std.specs.List.{range_with_len}
use Rattle.nanorand_core.specs.shuffles.Shuffles.{arranged, from_all, from_itself}
use Rattle.nanorand_replay.specs.declared.replay.Answer.{Answer}
use Rattle.nanorand_core.proofs.lemmas.shuffles.PartnerLemmas.{Makes, partner_between, three_partners, first_refused}
use Rattle.nanorand_replay.specs.declared.replay.Kind.TheVariants as kinds
use Rattle.nanorand_replay.specs.declared.replay.Span.TheVariants as spans
use Rattle.nanorand_core.specs.declared.values.range.RangeError.TheVariants as refusals

-- A plain generator starts each request with a new block: u8, u8, u16.
two_bytes_and_a_word : (replayed steps 0 [] (Gen kinds.U8 ∷ Gen kinds.U8 ∷ Gen kinds.U16 ∷ [])).answers ≡ Unsigned 0 ∷ Unsigned 8 ∷ Unsigned 0x1110 ∷ []
unfolding taken
two_bytes_and_a_word = refl

one_wide_value : (replayed steps 0 [] (Gen kinds.U128 ∷ [])).answers ≡ Unsigned 0x0f0e0d0c0b0a09080706050403020100 ∷ []
unfolding taken
one_wide_value = refl

-- A buffered generator continues where the last request ended: u8, u8, u16. Four bytes of the one
-- block stay buffered.
abbrev buffered_replay : List Call → Replay (Buffered ℕ)
buffered_replay calls =
    replayed steps_buffered (buffer_of [] 0) [] calls

unbroken_bytes_and_a_word : (buffered_replay (Gen kinds.U8 ∷ Gen kinds.U8 ∷ Gen kinds.U16 ∷ [])).answers ≡ Unsigned 0 ∷ Unsigned 1 ∷ Unsigned 0x0302 ∷ []
unfolding taken buffered_taken buffered_after
unbroken_bytes_and_a_word = refl

four_bytes_left : (buffered_replay (Gen kinds.U8 ∷ Gen kinds.U8 ∷ Gen kinds.U16 ∷ [])).state ≡ buffer_of (4 ∷ 5 ∷ 6 ∷ 7 ∷ []) 1
unfolding taken buffered_taken buffered_after
four_bytes_left = refl

-- A call that fails does not end a replay.
refused_call_goes_on : (replayed steps 0 []
    (Gen kinds.U8 ∷ Range (spans.U8 (Included 5) (Excluded 5)) ∷ Range (spans.U8 (Included 10) (Included 12))
    ∷ Gen kinds.Bool ∷ [])).answers
    ≡ Unsigned 0 ∷ Empty ∷ Unsigned 10 ∷ Truth true ∷ []
unfolding named range_within words_from value_drawn left_by left_after taken
refused_call_goes_on = refl

-- How a replay continues after a shuffle whose outcome is known.
module _ {G : Type 0} (requests : Requests G) where
  abbrev pub goes_on : List Answer → List Call → Outcome G → Replay G
  goes_on before calls shuffled =
      let rest = replayed requests shuffled.state shuffled.items calls in
      record { answers = before ++ shuffled.answer ∷ rest.answers; items = rest.items; state = rest.state }

  pub whole_shuffle : (g left : G) (choices : List ℕ) (x y z : ℕ) → Makes requests from_itself 3 g (Ok tt) choices left
      → outcome requests g (x ∷ y ∷ z ∷ []) Shuffle ≡ record { answer = Shuffled; items = arranged choices (x ∷ y ∷ z ∷ []); state = left }
  whole_shuffle g left choices x y z makes =
      λ i. record { answer = shuffle_call_answer (makes.answered i); items = arranged (makes.chosen i) (x ∷ y ∷ z ∷ []); state = makes.leaves i }

  pub refused_shuffle : (g left : G) (choices : List ℕ) (x y z : ℕ) → Makes requests from_itself 3 g (Err refusals.Exhausted) choices left
      → outcome requests g (x ∷ y ∷ z ∷ []) Shuffle ≡ record { answer = Exhausted; items = arranged choices (x ∷ y ∷ z ∷ []); state = left }
  refused_shuffle g left choices x y z makes =
      λ i. record { answer = shuffle_call_answer (makes.answered i); items = arranged (makes.chosen i) (x ∷ y ∷ z ∷ []); state = makes.leaves i }

abbrev pub four_calls : List Call
four_calls = Gen kinds.U8 ∷ Range (spans.U8 (Included 10) (Included 12)) ∷ Shuffle ∷ Gen kinds.Bool ∷ []

abbrev pub items_7_to_9 : List ℕ
items_7_to_9 = 7 ∷ 8 ∷ 9 ∷ []

-- A replay of no calls leaves everything as it is.
no_calls : replayed steps 5 items_7_to_9 [] ≡ record { answers = []; items = items_7_to_9; state = 5 }
no_calls = refl

-- A byte, a range, a shuffle and a truth value, from rising bytes: six blocks.
pub third_block_on : Makes steps from_itself 3 2 (Ok tt) (0 ∷ 1 ∷ 2 ∷ []) 5
unfolding named words_from value_drawn left_by left_after taken
third_block_on =
    three_partners steps from_itself 2 3 4 5 0 1 2
    (partner_between steps from_itself 3 0 2 (omega arith) (omega arith) ∙ refl)
    (partner_between steps from_itself 3 1 3 (omega arith) (omega arith) ∙ refl)
    (partner_between steps from_itself 3 2 4 (omega arith) (omega arith) ∙ refl)

replay_of_rising_bytes : replayed steps 0 items_7_to_9 four_calls
    ≡ record { answers = Unsigned 0 ∷ Unsigned 10 ∷ Shuffled ∷ Truth true ∷ []; items = items_7_to_9; state = 6 }
unfolding named range_within words_from value_drawn left_by left_after taken
replay_of_rising_bytes =
    ap (goes_on steps (Unsigned 0 ∷ Unsigned 10 ∷ []) (Gen kinds.Bool ∷ []))
    (whole_shuffle steps 2 5 (0 ∷ 1 ∷ 2 ∷ []) 7 8 9 third_block_on) ∙ refl

two_bytes_on : Makes steps_buffered from_itself 3 (buffer_of (range_with_len 2 6) 1) (Ok tt) (0 ∷ 1 ∷ 2 ∷ []) (buffer_of (range_with_len 26 6) 4)
unfolding named words_from value_drawn left_by left_after taken buffered_taken buffered_after
two_bytes_on =
    let between = partner_between steps_buffered from_itself 3 in
    three_partners steps_buffered from_itself
    (buffer_of (range_with_len 2 6) 1) (buffer_of (range_with_len 10 6) 2) (buffer_of (range_with_len 18 6) 3) (buffer_of (range_with_len 26 6) 4) 0 1 2
    (between 0 (buffer_of (range_with_len 2 6) 1) (omega arith) (omega arith) ∙ refl)
    (between 1 (buffer_of (range_with_len 10 6) 2) (omega arith) (omega arith) ∙ refl)
    (between 2 (buffer_of (range_with_len 18 6) 3) (omega arith) (omega arith) ∙ refl)

buffered_replay_of_rising_bytes : replayed steps_buffered (buffer_of [] 0) items_7_to_9 four_calls
    ≡ record { answers = Unsigned 0 ∷ Unsigned 10 ∷ Shuffled ∷ Truth true ∷ []; items = items_7_to_9; state = buffer_of (27 ∷ 28 ∷ 29 ∷ 30 ∷ 31 ∷ []) 4 }
unfolding named range_within words_from value_drawn left_by left_after taken buffered_taken buffered_after
buffered_replay_of_rising_bytes =
    ap (goes_on steps_buffered (Unsigned 0 ∷ Unsigned 10 ∷ []) (Gen kinds.Bool ∷ []))
    (whole_shuffle steps_buffered (buffer_of (range_with_len 2 6) 1) (buffer_of (range_with_len 26 6) 4) (0 ∷ 1 ∷ 2 ∷ []) 7 8 9 two_bytes_on) ∙ refl

twenty_seven_bytes : steps_buffered.after (buffer_of [] 0) 27 ≡ buffer_of (27 ∷ 28 ∷ 29 ∷ 30 ∷ 31 ∷ []) 4
unfolding taken buffered_after
twenty_seven_bytes = refl

-- With partners from all indices, the items rotate.
third_block_turns : Makes steps from_all 3 2 (Ok tt) (0 ∷ 0 ∷ 0 ∷ []) 5
unfolding named words_from value_drawn left_by left_after taken
third_block_turns =
    three_partners steps from_all 2 3 4 5 0 0 0
    (partner_between steps from_all 3 0 2 (omega arith) (omega arith) ∙ refl)
    (partner_between steps from_all 3 1 3 (omega arith) (omega arith) ∙ refl)
    (partner_between steps from_all 3 2 4 (omega arith) (omega arith) ∙ refl)

items_turn : arranged (0 ∷ 0 ∷ 0 ∷ []) items_7_to_9 ≡ 9 ∷ 7 ∷ 8 ∷ []
items_turn = refl

abbrev range_and_byte : List Call
range_and_byte = Range (spans.U8 (Included 10) (Included 12)) ∷ Gen kinds.U8 ∷ []

abbrev late_one : List ℕ
late_one = replicate 128 0 ++ 1 ∷ []

-- The byte after 128 rejected words is in block 129 if each word takes a block, and in block 17 if
-- bytes are buffered.
byte_of_block_129 : replayed (script late_one) 0 [] range_and_byte ≡ record { answers = Exhausted ∷ Unsigned 1 ∷ []; items = []; state = 129 }
unfolding named range_within words_from value_drawn left_by left_after taken
byte_of_block_129 = refl

byte_of_block_17 : replayed (script_buffered late_one) (buffer_of [] 0) [] range_and_byte
    ≡ record { answers = Exhausted ∷ Unsigned 0 ∷ []; items = []; state = buffer_of (replicate 7 0) 17 }
unfolding named range_within words_from value_drawn left_by left_after taken buffered_taken buffered_after
byte_of_block_17 = refl

-- A shuffle of three items that fails, and the truth value after it.
abbrev shuffle_and_truth : List Call
shuffle_and_truth = Shuffle ∷ Gen kinds.Bool ∷ []

zeros_refuse : Makes (script []) from_itself 3 0 (Err refusals.Exhausted) [] 128
unfolding named words_from value_drawn left_by left_after taken
zeros_refuse =
    first_refused (script []) from_itself 0 128
    (partner_between (script []) from_itself 3 0 0 (omega arith) (omega arith) ∙ refl)

truth_of_block_129 : replayed (script []) 0 (7 ∷ 8 ∷ 9 ∷ []) shuffle_and_truth
    ≡ record { answers = Exhausted ∷ Truth true ∷ []; items = 7 ∷ 8 ∷ 9 ∷ []; state = 129 }
unfolding taken
truth_of_block_129 =
    ap (goes_on (script []) [] (Gen kinds.Bool ∷ []))
    (refused_shuffle (script []) 0 128 [] 7 8 9 zeros_refuse) ∙ refl

kept_zeros_refuse : Makes (script_buffered []) from_itself 3 (buffer_of [] 0) (Err refusals.Exhausted) [] (buffer_of [] 128)
unfolding named words_from value_drawn left_by left_after taken buffered_taken buffered_after
kept_zeros_refuse =
    first_refused (script_buffered []) from_itself (buffer_of [] 0) (buffer_of [] 128)
    (partner_between (script_buffered []) from_itself 3 0 (buffer_of [] 0) (omega arith) (omega arith) ∙ refl)

kept_truth_of_block_129 : replayed (script_buffered []) (buffer_of [] 0) (7 ∷ 8 ∷ 9 ∷ []) shuffle_and_truth
    ≡ record { answers = Exhausted ∷ Truth true ∷ []; items = 7 ∷ 8 ∷ 9 ∷ []; state = buffer_of (replicate 7 0) 129 }
unfolding taken buffered_taken buffered_after
kept_truth_of_block_129 =
    ap (goes_on (script_buffered []) [] (Gen kinds.Bool ∷ []))
    (refused_shuffle (script_buffered []) (buffer_of [] 0) (buffer_of [] 128) [] 7 8 9 kept_zeros_refuse) ∙ refl
