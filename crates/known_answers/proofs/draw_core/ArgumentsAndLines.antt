-- Known answers, computed from the definitions alone: what arguments ask for, what seeds draw, and
-- the lines that are written.
use Rattle.std.specs.Prelude.{◌≡◌, ℕ, List, [], ◌∷◌, ◌++◌, codes, negsuc, true, false, Ok, Err, refl}
use Rattle.std.proofs.Common.{arith}
use Rattle.std.proofs.lemmas.Fmt.{decimal_digit}
use Rattle.hex.specs.Hex.{decode_pairs}
use Rattle.std.specs.declared.ops.Bound.TheVariants.{Included, Unbounded}
use Rattle.nanorand_core.specs.generators.Blocks.{taken}
use Rattle.nanorand_replay.specs.declared.replay.Answer.{Answer}
use Rattle.nanorand_replay.specs.declared.replay.Answer.TheVariants.{Unsigned, Signed, Truth, Empty, Exhausted, Shuffled}
use Rattle.nanorand_replay.specs.declared.replay.Kind.{Kind}
use Rattle.nanorand_replay.specs.declared.replay.Kind.TheVariants as kinds
use Rattle.nanorand_replay.specs.declared.replay.Span.TheVariants as spans
use Rattle.nanorand_replay.specs.declared.replay.Call.TheVariants.{Gen, Range}
use Rattle.draw_core.specs.declared.command.Mode.TheVariants.{Plain}
use Rattle.draw_core.specs.declared.command.SeededGenerator.TheVariants.{WyRand}
use Rattle.draw_core.specs.declared.error.DrawError.TheVariants.{BadWord, Memory, Write}
use Rattle.draw_core.specs.Numbers.{IsUnsigned}
use Rattle.draw_core.specs.Requests.{IsRequest}
use Rattle.draw_core.specs.Arguments.{Asked, AsksFor}
use Rattle.draw_core.specs.Text.{from_seeded, text_of, text_asked, status_of}

-- The seeds d29b42879be2895f and d19b42879be2895f of wyrand.
abbrev seed_of_one : List ℕ
seed_of_one = 0xd2 ∷ 0x9b ∷ 0x42 ∷ 0x87 ∷ 0x9b ∷ 0xe2 ∷ 0x89 ∷ 0x5f ∷ []

abbrev seed_of_zero : List ℕ
seed_of_zero = 0xd1 ∷ 0x9b ∷ 0x42 ∷ 0x87 ∷ 0x9b ∷ 0xe2 ∷ 0x89 ∷ 0x5f ∷ []

-- The answer to one request.
abbrev answers : List ℕ → Kind → List Answer
answers seed kind = (from_seeded (WyRand seed) Plain (Gen kind ∷ []) []).answers

u64_of_one : answers seed_of_one kinds.U64 ≡ Unsigned 16646288086500911322 ∷ []
unfolding taken
u64_of_one = refl

i64_of_one : answers seed_of_one kinds.I64 ≡ Signed (negsuc 1800455987208640293) ∷ []
unfolding taken
i64_of_one = refl

u8_of_one : answers seed_of_one kinds.U8 ≡ Unsigned 218 ∷ []
unfolding taken
u8_of_one = refl

i8_of_one : answers seed_of_one kinds.I8 ≡ Signed (negsuc 37) ∷ []
unfolding taken
i8_of_one = refl

bool_of_one : answers seed_of_one kinds.Bool ≡ Truth false ∷ []
unfolding taken
bool_of_one = refl

bool_of_zero : answers seed_of_zero kinds.Bool ≡ Truth true ∷ []
unfolding taken
bool_of_zero = refl

-- One line for each answer, and no line of items if there are none.
lines_of_truths : text_of (record { answers = Truth true ∷ Truth false ∷ []; items = [] }) ≡ codes "true" ++ 10 ∷ codes "false" ++ 10 ∷ []
lines_of_truths = refl

-- Errors, a shuffle, a negative number, and the items on the last line.
lines_of_all_kinds : text_of (record { answers = Unsigned 7 ∷ Signed (negsuc 0) ∷ Empty ∷ Exhausted ∷ Shuffled ∷ []; items = 1 ∷ 0 ∷ 2 ∷ [] })
    ≡ codes "7" ++ 10 ∷ codes "-1" ++ 10 ∷ codes "empty" ++ 10 ∷ codes "exhausted" ++ 10 ∷ codes "shuffled" ++ 10 ∷ codes "items: 1 0 2" ++ 10 ∷ []
lines_of_all_kinds =
    rw (decimal_digit 7 (omega arith), decimal_digit 1 (omega arith), decimal_digit 0 (omega arith), decimal_digit 2 (omega arith)) refl

nothing_asked : text_of (record { answers = []; items = [] }) ≡ []
nothing_asked = refl

-- The arguments `wyrand d19b42879be2895f plain 3 u8`, and the whole text that they ask for.
abbrev zero_and_items : Asked
zero_and_items = record { generator = WyRand seed_of_zero; mode = Plain; count = 3; calls = Gen kinds.U8 ∷ [] }

asks_for_zero : AsksFor (codes "wyrand" ∷ codes "d19b42879be2895f" ∷ codes "plain" ∷ codes "3" ∷ codes "u8" ∷ []) zero_and_items
unfolding decode_pairs
asks_for_zero = record {
  generator = refl;
  seed = refl;
  mode = refl;
  count = record { number = record { digits = (omega arith, (omega arith, tt)); value = refl; fits = omega arith }; small = omega arith };
  requests = (refl, tt);
}

text_of_zero : text_asked zero_and_items ≡ codes "0" ++ 10 ∷ codes "items: 0 1 2" ++ 10 ∷ []
unfolding taken
text_of_zero = rw (decimal_digit 0 (omega arith), decimal_digit 1 (omega arith), decimal_digit 2 (omega arith)) refl

-- Leading zeros.
leading_zeros : IsUnsigned 8 (codes "007") 7
leading_zeros = record { digits = (omega arith, (omega arith, (omega arith, (omega arith, tt)))); value = refl; fits = omega arith }

-- A range with both bounds, and one with none.
closed_request : IsRequest (codes "u8:1..=6") (Range (spans.U8 (Included 1) (Included 6)))
closed_request = (
  codes "1..=6",
  refl,
  record {
    before = codes "1";
    after = codes "=6";
    whole = refl;
    is_low = record { digits = (omega arith, (omega arith, tt)); value = refl; fits = omega arith };
    is_high = (codes "6", refl, record { digits = (omega arith, (omega arith, tt)); value = refl; fits = omega arith });
  },
)

unbounded_request : IsRequest (codes "i8:..") (Range (spans.I8 Unbounded Unbounded))
unbounded_request = (codes "..", refl, record { before = []; after = []; whole = refl; is_low = refl; is_high = refl })

-- The status of each outcome.
status_of_ok : status_of (Ok tt) ≡ 0
status_of_ok = refl

status_of_a_bad_word : status_of (Err (BadWord 5)) ≡ 2
status_of_a_bad_word = refl

status_of_memory : status_of (Err Memory) ≡ 3
status_of_memory = refl

status_of_write : status_of (Err Write) ≡ 4
status_of_write = refl
