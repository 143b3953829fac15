-- Known answers to calls on a seed, computed from the definitions alone.
use Rattle.std.specs.Prelude.{◌≡◌, ℕ, List, [], ◌∷◌, ◌++◌, replicate, pos, negsuc, false, refl}
use Rattle.std.specs.List.{range_with_len}
use Rattle.std.specs.declared.ops.Bound.TheVariants.{Included, Excluded, Unbounded}
use Rattle.nanorand_core.specs.generators.Blocks.{taken}
use Rattle.nanorand_replay.specs.generators.Buffered.{buffered_taken, buffered_after}
use Rattle.nanorand.specs.generators.ChaChaRounds.{quarter_round, on_columns, on_diagonals, rounds, block}
use Rattle.nanorand.specs.generators.ChaCha.{initial_state}
use Rattle.nanorand_core.specs.values.Runs.{named}
use Rattle.nanorand_core.specs.values.Range.{range_within}
use Rattle.nanorand_core.specs.values.Draws.{words_from, value_drawn, left_by, left_after}
use Rattle.nanorand_replay.specs.declared.replay.Answer.{Answer}
use Rattle.nanorand_replay.specs.declared.replay.Answer.TheVariants.{Unsigned, Signed, Truth, Empty}
use Rattle.nanorand_replay.specs.declared.replay.Kind.TheVariants as kinds
use Rattle.nanorand_replay.specs.declared.replay.Span.{Span}
use Rattle.nanorand_replay.specs.declared.replay.Span.TheVariants as spans
use Rattle.nanorand_replay.specs.declared.replay.Call.{Call}
use Rattle.nanorand_replay.specs.declared.replay.Call.TheVariants.{Gen, Range}
use Rattle.draw_core.specs.declared.command.Mode.{Mode}
use Rattle.draw_core.specs.declared.command.Mode.TheVariants.{Plain, Buffered}
use Rattle.draw_core.specs.declared.command.SeededGenerator.{SeededGenerator}
use Rattle.draw_core.specs.declared.command.SeededGenerator.TheVariants.{WyRand, Pcg64, ChaCha20}
use Rattle.draw_core.specs.Text.{from_seeded}

abbrev answers : SeededGenerator → Mode → List Call → List Answer
answers generator mode calls = (from_seeded generator mode calls []).answers

-- One range from the seed d29b42879be2895f of wyrand.
abbrev of_range : Span → List Answer
of_range span = answers (WyRand (0xd2 ∷ 0x9b ∷ 0x42 ∷ 0x87 ∷ 0x9b ∷ 0xe2 ∷ 0x89 ∷ 0x5f ∷ [])) Plain (Range span ∷ [])

u8_10_to_12 : of_range (spans.U8 (Included 10) (Included 12)) ≡ Unsigned 12 ∷ []
unfolding named range_within words_from value_drawn left_by left_after taken
u8_10_to_12 = refl

u8_all : of_range (spans.U8 Unbounded Unbounded) ≡ Unsigned 218 ∷ []
unfolding named range_within words_from value_drawn left_by left_after taken
u8_all = refl

u8_from_200 : of_range (spans.U8 (Included 200) Unbounded) ≡ Unsigned 247 ∷ []
unfolding named range_within words_from value_drawn left_by left_after taken
u8_from_200 = refl

u16_below_1000 : of_range (spans.U16 (Included 0) (Excluded 1000)) ≡ Unsigned 159 ∷ []
unfolding named range_within words_from value_drawn left_by left_after taken
u16_below_1000 = refl

i8_about_zero : of_range (spans.I8 (Included (negsuc 0)) (Included (pos 1))) ≡ Signed (pos 1) ∷ []
unfolding named range_within words_from value_drawn left_by left_after taken
i8_about_zero = refl

i8_all : of_range (spans.I8 Unbounded Unbounded) ≡ Signed (pos 90) ∷ []
unfolding named range_within words_from value_drawn left_by left_after taken
i8_all = refl

i16_about_zero : of_range (spans.I16 (Included (negsuc 299)) (Excluded (pos 300))) ≡ Signed (negsuc 204) ∷ []
unfolding named range_within words_from value_drawn left_by left_after taken
i16_about_zero = refl

i8_empty : of_range (spans.I8 (Included (negsuc 127)) (Excluded (negsuc 127))) ≡ Empty ∷ []
unfolding named range_within words_from value_drawn left_by left_after taken
i8_empty = refl

-- Two bytes and a `u16`, buffered.
unbroken : answers (WyRand (0xd2 ∷ 0x9b ∷ 0x42 ∷ 0x87 ∷ 0x9b ∷ 0xe2 ∷ 0x89 ∷ 0x5f ∷ [])) Buffered (Gen kinds.U8 ∷ Gen kinds.U8 ∷ Gen kinds.U16 ∷ [])
    ≡ Unsigned 218 ∷ Unsigned 40 ∷ Unsigned 41140 ∷ []
unfolding taken buffered_taken buffered_after
unbroken = refl

-- The zero seed of pcg64.
u8_of_pcg64 : answers (Pcg64 (replicate 16 0)) Plain (Gen kinds.U8 ∷ []) ≡ Unsigned 63 ∷ []
unfolding taken
u8_of_pcg64 = refl

-- The zero seed of chacha20, buffered: four requests from one block.
four_of_one_block : answers (ChaCha20 (replicate 40 0)) Buffered
    (Gen kinds.U8 ∷ Range (spans.U8 (Included 10) (Included 12)) ∷ Gen kinds.U16 ∷ Gen kinds.Bool ∷ [])
    ≡ Unsigned 118 ∷ Unsigned 12 ∷ Unsigned 44512 ∷ Truth false ∷ []
unfolding quarter_round on_columns on_diagonals rounds block initial_state named range_within words_from value_drawn
    left_by left_after taken buffered_taken buffered_after
four_of_one_block = refl

-- chacha20 with the key 00 01 .. 1f and the nonce 00 01 .. 07, plain: the first bytes of four
-- blocks.
abbrev in_order : List ℕ
in_order = range_with_len 0 32 ++ range_with_len 0 8

four_blocks : answers (ChaCha20 in_order) Plain (Gen kinds.U8 ∷ Gen kinds.U8 ∷ Gen kinds.U8 ∷ Gen kinds.U8 ∷ [])
    ≡ Unsigned 247 ∷ Unsigned 56 ∷ Unsigned 157 ∷ Unsigned 14 ∷ []
unfolding quarter_round on_columns on_diagonals rounds block initial_state taken
four_blocks = refl
