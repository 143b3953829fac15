-- How bytes are written in quotation marks, with escapes for hidden characters.
use Rattle.std.specs.Prelude.{◌≡◌, ◌≢◌, ◌⊎◌, ◌<◌, ℕ, ◌/◌, ◌%◌, ◌==◌, ◌&&◌, ◌||◌, nat_le, nat_lt, Bool, if◌then◌else◌, List, [], ◌∷◌, ◌++◌, codes}
use Rattle.std.specs.Char.{digit_char, encode_utf8}
use Rattle.std.specs.List.{flat_map, list_any}
use Rattle.std.specs.Str.{chars, is_utf8}

-- The hidden characters, as ranges of their codes, whatever the version of Unicode: controls and
-- format characters, spaces other than the plain one, private use, and some others that do not show.
abbrev pub hidden : List (ℕ × ℕ)
hidden =
    (0, 0x1f) ∷ (0x7f, 0xa0) ∷ (0xad, 0xad) ∷ (0x34f, 0x34f) ∷ (0x600, 0x605) ∷ (0x61c, 0x61c)
    ∷ (0x6dd, 0x6dd) ∷ (0x70f, 0x70f) ∷ (0x890, 0x891) ∷ (0x8e2, 0x8e2) ∷ (0x115f, 0x1160)
    ∷ (0x1680, 0x1680) ∷ (0x17b4, 0x17b5) ∷ (0x180b, 0x180f) ∷ (0x2000, 0x200f)
    ∷ (0x2028, 0x202f) ∷ (0x205f, 0x206f) ∷ (0x2800, 0x2800) ∷ (0x3000, 0x3000)
    ∷ (0x3164, 0x3164) ∷ (0xe000, 0xf8ff) ∷ (0xfdd0, 0xfdef) ∷ (0xfe00, 0xfe0f)
    ∷ (0xfeff, 0xfeff) ∷ (0xffa0, 0xffa0) ∷ (0xfff0, 0xffff) ∷ (0x110bd, 0x110bd)
    ∷ (0x110cd, 0x110cd) ∷ (0x13430, 0x1343f) ∷ (0x1bca0, 0x1bca3) ∷ (0x1d173, 0x1d17a)
    ∷ (0xe0000, 0x10ffff) ∷ []

-- Whether a character is hidden.
abbrev pub is_hidden : ℕ → Bool
is_hidden letter = list_any (λ range. nat_le range.0 letter && nat_le letter range.1) hidden

-- The two hexadecimal digits of a byte, in lower case.
abbrev pub hex_digits : ℕ → List ℕ
hex_digits byte = digit_char (byte / 16) ∷ digit_char (byte % 16) ∷ []

-- A byte as a backslash, an x and two hexadecimal digits.
abbrev pub escape : ℕ → List ℕ
escape byte = codes "\\x" ++ hex_digits byte

abbrev pub escapes : List ℕ → List ℕ
escapes bytes = flat_map escape bytes

-- A character: itself, or the escapes of its bytes if it is a backslash or hidden.
abbrev pub letter_text : ℕ → List ℕ
letter_text letter =
    if letter == 92 || is_hidden letter then escapes (encode_utf8 letter) else encode_utf8 letter

-- A byte of bytes that are no text: itself, or its escape if it is a backslash or no character of
-- ASCII that shows.
abbrev pub byte_text : ℕ → List ℕ
byte_text byte =
    if byte == 92 || nat_lt byte 32 || nat_lt 126 byte then escape byte else byte ∷ []

abbrev pub letters_text : List ℕ → List ℕ
letters_text bytes = flat_map letter_text (chars bytes)

abbrev pub bytes_text : List ℕ → List ℕ
bytes_text bytes = flat_map byte_text bytes

-- Bytes with escapes for hidden characters: by characters if they are UTF-8, or byte by byte.
abbrev pub shown : List ℕ → List ℕ
shown bytes = if is_utf8 bytes then letters_text bytes else bytes_text bytes

abbrev pub quoted : List ℕ → List ℕ
quoted bytes = 34 ∷ shown bytes ++ 34 ∷ []

-- A text begins with a byte, as itself or as its escape; the rest follows. A backslash is always an
-- escape.
abbrev pub BeginsWith : ℕ → List ℕ → List ℕ → Type 0
BeginsWith byte text rest =
    ((byte ≢ 92) × (text ≡ byte ∷ rest)) ⊎ ((byte < 256) × (text ≡ escape byte ++ rest))

-- A text spells bytes: it has each as itself or as its escape, in order.
abbrev pub Spells : List ℕ → List ℕ → Type 0
Spells [] text = text ≡ []
Spells (byte ∷ bytes) text = (rest : List ℕ) × BeginsWith byte text rest × Spells bytes rest
