-- Known answers: what whole command lines ask for, and the text that is written.
use Rattle.std.specs.Prelude.{◌≡◌, ℕ, List, [], ◌∷◌, ◌++◌, codes, replicate, refl}
use Rattle.std.specs.Fmt.{digits}
use Rattle.std.specs.List.{range_with_len}
use Rattle.std.proofs.Common.{arith}
use Rattle.hex.specs.Hex.{decode_pairs}
use Rattle.std.specs.declared.ops.Bound.TheVariants.{Included, Excluded}
use Rattle.nanorand_core.specs.generators.Blocks.{taken}
use Rattle.nanorand_replay.specs.generators.Buffered.{buffered_taken, buffered_after}
use Rattle.nanorand.specs.generators.ChaChaRounds.{quarter_round, on_columns, on_diagonals, rounds, block}
use Rattle.nanorand.specs.generators.ChaCha.{initial_state}
use Rattle.nanorand_core.specs.values.Runs.{named}
use Rattle.nanorand_core.specs.values.Range.{range_within}
use Rattle.nanorand_core.specs.values.Draws.{words_from, value_drawn, left_by, left_after}
use Rattle.nanorand_replay.specs.declared.replay.Kind.TheVariants as kinds
use Rattle.nanorand_replay.specs.declared.replay.Span.TheVariants as spans
use Rattle.nanorand_replay.specs.declared.replay.Call.TheVariants.{Gen, Range, Shuffle}
use Rattle.draw_core.specs.declared.command.Mode.TheVariants.{Plain, Buffered}
use Rattle.draw_core.specs.declared.command.SeededGenerator.TheVariants.{WyRand, Pcg64, ChaCha20}
use Rattle.draw_core.specs.Arguments.{Asked, AsksFor, IsCount}
use Rattle.draw_core.specs.Text.{text_asked}
use Rattle.known_answers.proofs.draw_core.RangeRequests.{u8_10_to_12, u8_empty, seed_of_pcg64, seed_of_zeros, seed_in_order}

no_items : IsCount (codes "0") 0
no_items = record { number = record { digits = (omega arith, (omega arith, tt)); value = refl; fits = omega arith }; small = omega arith }

one_item : IsCount (codes "1") 1
one_item = record { number = record { digits = (omega arith, (omega arith, tt)); value = refl; fits = omega arith }; small = omega arith }

three_items : IsCount (codes "3") 3
three_items = record { number = record { digits = (omega arith, (omega arith, tt)); value = refl; fits = omega arith }; small = omega arith }

most_items : IsCount (codes "1000") 1000
most_items = record {
  number = record {
    digits = (
      omega arith,
      (omega arith, (omega arith, (omega arith, (omega arith, tt)))),
    );
    value = refl;
    fits = omega arith;
  };
  small = omega arith;
}

-- `pcg64 00000000000000000000000000000000 plain 0 u8`
abbrev u8_of_pcg64 : Asked
u8_of_pcg64 = record { generator = Pcg64 (replicate 16 0); mode = Plain; count = 0; calls = Gen kinds.U8 ∷ [] }

asks_for_u8_of_pcg64 : AsksFor (codes "pcg64" ∷ codes "00000000000000000000000000000000" ∷ codes "plain" ∷ codes "0" ∷ codes "u8" ∷ []) u8_of_pcg64
asks_for_u8_of_pcg64 = record { generator = refl; seed = seed_of_pcg64; mode = refl; count = no_items; requests = (refl, tt) }

text_of_pcg64 : text_asked u8_of_pcg64 ≡ codes "63" ++ 10 ∷ []
unfolding taken digits
text_of_pcg64 = refl

-- `chacha20`, 80 zeros, `buffered 0 u8 u8:10..=12 u16 bool`
abbrev four_of_zeros : Asked
four_of_zeros = record {
  generator = ChaCha20 (replicate 40 0);
  mode = Buffered;
  count = 0;
  calls = Gen kinds.U8 ∷ Range (spans.U8 (Included 10) (Included 12)) ∷ Gen kinds.U16 ∷ Gen kinds.Bool ∷ [];
}

asks_for_four_of_zeros : AsksFor (codes "chacha20" ∷ replicate 80 48 ∷ codes "buffered" ∷ codes "0" ∷ codes "u8"
    ∷ codes "u8:10..=12" ∷ codes "u16" ∷ codes "bool" ∷ []) four_of_zeros
asks_for_four_of_zeros = record { generator = refl; seed = seed_of_zeros; mode = refl; count = no_items; requests = (refl, (u8_10_to_12, (refl, (refl, tt)))) }

text_of_zeros : text_asked four_of_zeros ≡ codes "118" ++ 10 ∷ codes "12" ++ 10 ∷ codes "44512" ++ 10 ∷ codes "false" ++ 10 ∷ []
unfolding quarter_round on_columns on_diagonals rounds block initial_state named range_within words_from value_drawn
    left_by left_after taken buffered_taken buffered_after digits
text_of_zeros = refl

-- `chacha20`, the key 00 01 .. 1f and the nonce 00 01 .. 07, `plain 0 u8 u8 u8 u8`
abbrev pub in_order : List ℕ
in_order = range_with_len 0 32 ++ range_with_len 0 8

abbrev digits_in_order : List ℕ
digits_in_order = codes "000102030405060708090a0b0c0d0e0f101112131415161718191a1b1c1d1e1f0001020304050607"

abbrev four_in_order : Asked
four_in_order = record { generator = ChaCha20 in_order; mode = Plain; count = 0; calls = Gen kinds.U8 ∷ Gen kinds.U8 ∷ Gen kinds.U8 ∷ Gen kinds.U8 ∷ [] }

asks_for_four_in_order : AsksFor (codes "chacha20" ∷ digits_in_order ∷ codes "plain" ∷ codes "0" ∷ codes "u8"
    ∷ codes "u8" ∷ codes "u8" ∷ codes "u8" ∷ []) four_in_order
asks_for_four_in_order = record { generator = refl; seed = seed_in_order; mode = refl; count = no_items; requests = (refl, (refl, (refl, (refl, tt)))) }

text_in_order : text_asked four_in_order ≡ codes "247" ++ 10 ∷ codes "56" ++ 10 ∷ codes "157" ++ 10 ∷ codes "14" ++ 10 ∷ []
unfolding quarter_round on_columns on_diagonals rounds block initial_state taken digits
text_in_order = refl

-- `wyrand d19b42879be2895f plain 1 u8:5..5 shuffle`
abbrev pub empty_and_shuffle : Asked
empty_and_shuffle = record {
  generator = WyRand (0xd1 ∷ 0x9b ∷ 0x42 ∷ 0x87 ∷ 0x9b ∷ 0xe2 ∷ 0x89 ∷ 0x5f ∷ []);
  mode = Plain;
  count = 1;
  calls = Range (spans.U8 (Included 5) (Excluded 5)) ∷ Shuffle ∷ [];
}

asks_for_empty_and_shuffle : AsksFor (codes "wyrand" ∷ codes "d19b42879be2895f" ∷ codes "plain" ∷ codes "1"
    ∷ codes "u8:5..5" ∷ codes "shuffle" ∷ []) empty_and_shuffle
unfolding decode_pairs
asks_for_empty_and_shuffle = record { generator = refl; seed = refl; mode = refl; count = one_item; requests = (u8_empty, (refl, tt)) }

-- A shuffle of three items, plain and buffered.
abbrev pub shuffle_in_order : Asked
shuffle_in_order = record { generator = ChaCha20 in_order; mode = Plain; count = 3; calls = Shuffle ∷ [] }

asks_for_shuffle_in_order : AsksFor (codes "chacha20" ∷ digits_in_order ∷ codes "plain" ∷ codes "3" ∷ codes "shuffle" ∷ []) shuffle_in_order
asks_for_shuffle_in_order = record { generator = refl; seed = seed_in_order; mode = refl; count = three_items; requests = (refl, tt) }

abbrev pub shuffle_of_zeros : Asked
shuffle_of_zeros = record { generator = ChaCha20 (replicate 40 0); mode = Buffered; count = 3; calls = Shuffle ∷ [] }

asks_for_shuffle_of_zeros : AsksFor (codes "chacha20" ∷ replicate 80 48 ∷ codes "buffered" ∷ codes "3" ∷ codes "shuffle" ∷ []) shuffle_of_zeros
asks_for_shuffle_of_zeros = record { generator = refl; seed = seed_of_zeros; mode = refl; count = three_items; requests = (refl, tt) }
