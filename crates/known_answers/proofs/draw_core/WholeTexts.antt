-- Known answers: arguments of the program, and the whole text that they ask for.
use Rattle.std.specs.Prelude.{◌≡◌, ℕ, List, [], ◌∷◌, ◌++◌, codes, pos, negsuc, refl}
use Rattle.std.specs.Fmt.{digits}
use Rattle.std.proofs.Common.{arith}
use Rattle.hex.specs.Hex.{decode_pairs}
use Rattle.std.specs.declared.ops.Bound.TheVariants.{Included}
use Rattle.nanorand_core.specs.generators.Blocks.{taken}
use Rattle.nanorand_replay.specs.generators.Buffered.{buffered_taken, buffered_after}
use Rattle.nanorand_core.specs.values.Runs.{named}
use Rattle.nanorand_core.specs.values.Range.{range_within}
use Rattle.nanorand_core.specs.values.Draws.{words_from, value_drawn, left_by, left_after}
use Rattle.nanorand_replay.specs.declared.replay.Kind.TheVariants as kinds
use Rattle.nanorand_replay.specs.declared.replay.Span.TheVariants as spans
use Rattle.nanorand_replay.specs.declared.replay.Call.{Call}
use Rattle.nanorand_replay.specs.declared.replay.Call.TheVariants.{Gen, Range}
use Rattle.draw_core.specs.declared.command.Mode.{Mode}
use Rattle.draw_core.specs.declared.command.Mode.TheVariants.{Plain, Buffered}
use Rattle.draw_core.specs.declared.command.SeededGenerator.TheVariants.{WyRand}
use Rattle.draw_core.specs.Requests.{IsRequest}
use Rattle.draw_core.specs.Arguments.{Asked, AsksFor, IsCount, IsSeed}
use Rattle.draw_core.specs.Text.{text_asked}

no_items : IsCount (codes "0") 0
no_items = record { number = record { digits = (omega arith, (omega arith, tt)); value = refl; fits = omega arith }; small = omega arith }

abbrev of_one : Mode → List Call → Asked
of_one mode calls = record { generator = WyRand (0xd2 ∷ 0x9b ∷ 0x42 ∷ 0x87 ∷ 0x9b ∷ 0xe2 ∷ 0x89 ∷ 0x5f ∷ []); mode = mode; count = 0; calls = calls }

-- `wyrand d29b42879be2895f plain 0 u8`
asks_for_u8 : AsksFor (codes "wyrand" ∷ codes "d29b42879be2895f" ∷ codes "plain" ∷ codes "0" ∷ codes "u8" ∷ []) (of_one Plain (Gen kinds.U8 ∷ []))
unfolding decode_pairs
asks_for_u8 = record { generator = refl; seed = refl; mode = refl; count = no_items; requests = (refl, tt) }

text_of_u8 : text_asked (of_one Plain (Gen kinds.U8 ∷ [])) ≡ codes "218" ++ 10 ∷ []
unfolding taken digits
text_of_u8 = refl

-- The same with another last argument.
abbrev first_four : List (List ℕ)
first_four = codes "wyrand" ∷ codes "d29b42879be2895f" ∷ codes "plain" ∷ codes "0" ∷ []

asks_for_request : (argument : List ℕ) (call : Call) → IsRequest argument call → AsksFor (first_four ++ argument ∷ []) (of_one Plain (call ∷ []))
unfolding decode_pairs
asks_for_request argument call is = record { generator = refl; seed = refl; mode = refl; count = no_items; requests = (is, tt) }

asks_for_u64 : AsksFor (first_four ++ codes "u64" ∷ []) (of_one Plain (Gen kinds.U64 ∷ []))
asks_for_u64 = asks_for_request (codes "u64") (Gen kinds.U64) refl

text_of_u64 : text_asked (of_one Plain (Gen kinds.U64 ∷ [])) ≡ codes "16646288086500911322" ++ 10 ∷ []
unfolding taken digits
text_of_u64 = refl

asks_for_i64 : AsksFor (first_four ++ codes "i64" ∷ []) (of_one Plain (Gen kinds.I64 ∷ []))
asks_for_i64 = asks_for_request (codes "i64") (Gen kinds.I64) refl

text_of_i64 : text_asked (of_one Plain (Gen kinds.I64 ∷ [])) ≡ codes "-1800455987208640294" ++ 10 ∷ []
unfolding taken digits
text_of_i64 = refl

asks_for_bool : AsksFor (first_four ++ codes "bool" ∷ []) (of_one Plain (Gen kinds.Bool ∷ []))
asks_for_bool = asks_for_request (codes "bool") (Gen kinds.Bool) refl

text_of_bool : text_asked (of_one Plain (Gen kinds.Bool ∷ [])) ≡ codes "false" ++ 10 ∷ []
unfolding taken
text_of_bool = refl

asks_for_i8 : AsksFor (first_four ++ codes "i8" ∷ []) (of_one Plain (Gen kinds.I8 ∷ []))
asks_for_i8 = asks_for_request (codes "i8") (Gen kinds.I8) refl

text_of_i8 : text_asked (of_one Plain (Gen kinds.I8 ∷ [])) ≡ codes "-38" ++ 10 ∷ []
unfolding taken digits
text_of_i8 = refl

-- `i8:-1..=1`
abbrev about_zero : Call
about_zero = Range (spans.I8 (Included (negsuc 0)) (Included (pos 1)))

asks_about_zero : AsksFor (first_four ++ codes "i8:-1..=1" ∷ []) (of_one Plain (about_zero ∷ []))
asks_about_zero =
    asks_for_request (codes "i8:-1..=1") about_zero (
      codes "-1..=1",
      refl,
      record {
        before = codes "-1";
        after = codes "=1";
        whole = refl;
        is_low = record { digits = (omega arith, (omega arith, tt)); value = refl; fits = omega arith };
        is_high = (codes "1", refl, record { digits = (omega arith, (omega arith, tt)); value = refl; fits = omega arith });
      },
    )

text_about_zero : text_asked (of_one Plain (about_zero ∷ [])) ≡ codes "1" ++ 10 ∷ []
unfolding named range_within words_from value_drawn left_by left_after taken digits
text_about_zero = refl

-- `wyrand d29b42879be2895f buffered 0 u8 u8 u16`
abbrev two_bytes_and_a_word : List Call
two_bytes_and_a_word = Gen kinds.U8 ∷ Gen kinds.U8 ∷ Gen kinds.U16 ∷ []

asks_for_buffered : AsksFor (codes "wyrand" ∷ codes "d29b42879be2895f" ∷ codes "buffered" ∷ codes "0" ∷ codes "u8"
    ∷ codes "u8" ∷ codes "u16" ∷ []) (of_one Buffered two_bytes_and_a_word)
unfolding decode_pairs
asks_for_buffered = record { generator = refl; seed = refl; mode = refl; count = no_items; requests = (refl, (refl, (refl, tt))) }

text_of_buffered : text_asked (of_one Buffered two_bytes_and_a_word) ≡ codes "218" ++ 10 ∷ codes "40" ++ 10 ∷ codes "41140" ++ 10 ∷ []
unfolding taken buffered_taken buffered_after digits
text_of_buffered = refl

-- No requests and no items: no text.
asks_for_nothing : AsksFor first_four (of_one Plain [])
unfolding decode_pairs
asks_for_nothing = record { generator = refl; seed = refl; mode = refl; count = no_items; requests = tt }

text_of_nothing : text_asked (of_one Plain []) ≡ []
text_of_nothing = refl

-- A seed in capitals.
seed_in_capitals : IsSeed (codes "D19B42879BE2895F") (WyRand (0xd1 ∷ 0x9b ∷ 0x42 ∷ 0x87 ∷ 0x9b ∷ 0xe2 ∷ 0x89 ∷ 0x5f ∷ []))
unfolding decode_pairs
seed_in_capitals = refl
