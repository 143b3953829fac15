-- The first line of a text, and the lines after it.
use Rattle.std.proofs.Common.{◌≡◌, ◌≢◌, ℕ, zero, suc, ◌+◌, ◌<◌, List, [], ◌∷◌, length, take, drop, slice_index, ap}
use Rattle.std.proofs.Common.{arith, ◌∙◌}
use Rattle.std.specs.List.{onto_first}
use Rattle.lots_core.specs.Lists.{HasNoLineFeed, lines_of}

-- A text without line feeds has none after its first byte either.
tail_has_none : (byte : ℕ) (bytes : List ℕ) → HasNoLineFeed (byte ∷ bytes) → HasNoLineFeed bytes
tail_has_none byte bytes none = λ k d within. none (suc k) d (omega (arith, within))

-- A byte that is not a line feed is added to the front of the first line.
pub byte_joins : (byte : ℕ) (bytes : List ℕ) → byte ≢ 10 → lines_of (byte ∷ bytes) ≡ onto_first byte (lines_of bytes)
byte_joins byte bytes other = search (arith, other)

-- The text before the first line feed is the first line.
pub line_before : (text : List ℕ) (end : ℕ) → end < length text → slice_index text end ≡ 10
    → HasNoLineFeed (take end text) → lines_of text ≡ take end text ∷ lines_of (drop (end + 1) text)
line_before [] end within feed none = absurd (omega (arith, within))
line_before (byte ∷ bytes) zero within feed none = search (arith, feed)
line_before (byte ∷ bytes) (suc end) within feed none =
    let more : suc (end + 1) ≡ suc end + 1 = omega arith in
    byte_joins byte bytes (none 0 0 (omega arith))
    ∙ ap (onto_first byte)
    (line_before bytes end (omega (arith, within)) feed (tail_has_none byte (take end bytes) none))
    ∙ ap (λ n. (byte ∷ take end bytes) ∷ lines_of (drop n (byte ∷ bytes))) more

-- A text without line feeds is one line.
last_line : (byte : ℕ) (bytes : List ℕ) → HasNoLineFeed (byte ∷ bytes) → lines_of (byte ∷ bytes) ≡ (byte ∷ bytes) ∷ []
last_line byte [] none = byte_joins byte [] (none 0 0 (omega arith))
last_line byte (next ∷ bytes) none =
    byte_joins byte (next ∷ bytes) (none 0 0 (omega arith))
    ∙ ap (onto_first byte) (last_line next bytes (tail_has_none byte (next ∷ bytes) none))

pub last_line_of : (text : List ℕ) → 0 < length text → HasNoLineFeed text → lines_of text ≡ text ∷ []
last_line_of [] some none = absurd (omega (arith, some))
last_line_of (byte ∷ bytes) some none = last_line byte bytes none
