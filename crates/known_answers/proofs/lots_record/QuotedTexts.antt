-- Known answers: how records and announcements quote texts, and bytes that are no text.
use Rattle.std.specs.Prelude.{◌≡◌, [], ◌∷◌, codes, map, true, false, refl}
use Rattle.std.specs.Char.{encode_utf8}
use Rattle.std.specs.Str.{chars, is_utf8}
use Rattle.lots_record.specs.Quoted.{is_hidden, quoted}

-- ASCII that shows is written as it is, also spaces at the ends.
plain : quoted (codes " Ada ") ≡ codes "\" Ada \""
unfolding is_utf8 chars encode_utf8
plain = refl

empty : quoted [] ≡ codes "\"\""
unfolding is_utf8 chars encode_utf8
empty = refl

-- A quotation mark stands as it is, a backslash as `\x5c`.
marks : quoted (codes "a\"b\\n") ≡ codes "\"a\"b\\x5cn\""
unfolding is_utf8 chars encode_utf8
marks = refl

controls : quoted (0 ∷ 9 ∷ 10 ∷ 31 ∷ 127 ∷ []) ≡ codes "\"\\x00\\x09\\x0a\\x1f\\x7f\""
unfolding is_utf8 chars encode_utf8
controls = refl

-- é and 张 show. A space that does not break (U+00A0) and one without width (U+200B) are hidden.
letters : quoted (0xc3 ∷ 0xa9 ∷ 0xe5 ∷ 0xbc ∷ 0xa0 ∷ []) ≡ 34 ∷ 0xc3 ∷ 0xa9 ∷ 0xe5 ∷ 0xbc ∷ 0xa0 ∷ 34 ∷ []
unfolding is_utf8 chars encode_utf8
letters = refl

spaces : quoted (0xc2 ∷ 0xa0 ∷ 0xe2 ∷ 0x80 ∷ 0x8b ∷ []) ≡ codes "\"\\xc2\\xa0\\xe2\\x80\\x8b\""
unfolding is_utf8 chars encode_utf8
spaces = refl

-- The ends of some ranges of hidden characters, and the characters next to them.
ends : map is_hidden (0x1f ∷ 0x20 ∷ 0x7e ∷ 0x7f ∷ 0xa0 ∷ 0xa1 ∷ 0xac ∷ 0xad ∷ 0xae ∷ []) ≡ true ∷ false ∷ false ∷ true ∷ true ∷ false ∷ false ∷ true ∷ false ∷ []
ends = refl

later_ends : map is_hidden (0x1fff ∷ 0x2000 ∷ 0x200f ∷ 0x2010 ∷ 0xdffff ∷ 0xe0000 ∷ 0x10ffff ∷ []) ≡ false ∷ true ∷ true ∷ false ∷ false ∷ true ∷ true ∷ []
later_ends = refl

-- In bytes that are not UTF-8, no byte from 127 on stands as it is: é, and a byte that begins nothing.
no_text : quoted (97 ∷ 0xc3 ∷ 0xa9 ∷ 0xff ∷ []) ≡ codes "\"a\\xc3\\xa9\\xff\""
unfolding is_utf8 chars encode_utf8
no_text = refl

cut_short : quoted (0xc3 ∷ []) ≡ codes "\"\\xc3\""
unfolding is_utf8 chars encode_utf8
cut_short = refl
