-- Known answers of the test generators, computed from the definitions alone.
use Rattle.std.specs.Prelude.{◌≡◌, ℕ, ◌-◌, ◌^◌, List, [], ◌∷◌, ◌++◌, replicate, refl}
use Rattle.std.specs.List.{range_with_len}
use Rattle.std.specs.declared.ops.Bound.TheVariants.{Included}
use Rattle.nanorand_core.specs.generators.Blocks.{taken, plain}
use Rattle.nanorand_replay.specs.generators.Buffered.{buffered, buffer_of, buffered_taken, buffered_after}
use Rattle.nanorand_core.specs.values.Runs.{named}
use Rattle.nanorand_core.specs.values.Range.{range_within}
use Rattle.nanorand_core.specs.values.Draws.{words_from, value_drawn, left_by, left_after}
use Rattle.nanorand_replay.specs.replay.Replay.{replayed}
use Rattle.nanorand_replay.specs.declared.replay.Kind.TheVariants as kinds
use Rattle.nanorand_replay.specs.declared.replay.Span.TheVariants as spans
use Rattle.nanorand_replay.specs.declared.replay.Call.TheVariants.{Gen, Range}
use Rattle.nanorand_replay.specs.declared.replay.Answer.TheVariants.{Unsigned, Exhausted}
use Rattle.test_support.specs.Steps.{next_count, steps_block}
use Rattle.test_support.specs.Script.{script_block, script_step}
use Rattle.test_support.specs.Waste.{waste_after, waste_requests}

-- `Steps`: the first, the second and the last block, and the count after the last.
steps_from_0 : steps_block 0 ≡ range_with_len 0 8
steps_from_0 = refl

steps_from_8 : steps_block 1 ≡ range_with_len 8 8
steps_from_8 = refl

steps_of_the_greatest : steps_block (2 ^ 64 - 1) ≡ range_with_len 248 8
steps_of_the_greatest = refl

count_after_the_greatest : next_count (2 ^ 64 - 1) ≡ 0
count_after_the_greatest = refl

-- `Waste` drops a block at a request of one byte, and none at a request of a whole block.
wasted_replay : replayed waste_requests 0 [] (Gen kinds.U8 ∷ Gen kinds.U64 ∷ Gen kinds.U8 ∷ [])
    ≡ record { answers = Unsigned 0 ∷ Unsigned 0x1716151413121110 ∷ Unsigned 24 ∷ []; items = []; state = 5 }
unfolding taken
wasted_replay = refl

nothing_wasted : waste_after 7 0 ≡ 7
nothing_wasted = refl

-- A buffer around it requests whole blocks, so that none is dropped.
kept_replay : replayed (buffered steps_block next_count 8) (buffer_of [] 0) [] (Gen kinds.U8 ∷ Gen kinds.U8 ∷ [])
    ≡ record { answers = Unsigned 0 ∷ Unsigned 1 ∷ []; items = []; state = buffer_of (range_with_len 2 6) 1 }
unfolding taken buffered_taken buffered_after
kept_replay = refl

-- A script of 128 zeros and a one. The draw from the range fails.
abbrev late_one : List ℕ
late_one = replicate 128 0 ++ 1 ∷ []

byte_of_block_129 : replayed (plain script_block script_step 8) (late_one, 0) [] (Range (spans.U8 (Included 10) (Included 12)) ∷ Gen kinds.U8 ∷ [])
    ≡ record { answers = Exhausted ∷ Unsigned 1 ∷ []; items = []; state = (late_one, 129) }
unfolding named range_within words_from value_drawn left_by left_after taken
byte_of_block_129 = refl

-- A script that starts one block before its list: a word of 0, the list, and 0 again.
words_of_a_script : taken script_block script_step (7 ∷ 9 ∷ [], 2 ^ 64 - 1) 32
    ≡ replicate 8 0 ++ 7 ∷ replicate 7 0 ++ 9 ∷ replicate 15 0
unfolding taken
words_of_a_script = refl
