-- The values of a record have no line feed.
use Rattle.std.proofs.Common.{◌≡◌, ◌≢◌, ℕ, zero, suc, ◌+◌, ◌/◌, ◌%◌, ◌<◌, ◌^◌, ◌||◌, ◌==◌, Bool, true, false, cond, List, [], ◌∷◌, ◌++◌, Option, Some, None, slice_index, ap, refl, sym, arith, codes, decimal}
use Rattle.std.specs.Prelude.{nat_lt}
use Rattle.std.specs.List.{flat_map, list_all}
use Rattle.std.specs.Char.{digit_char, encode_utf8}
use Rattle.std.specs.Str.{chars, is_utf8}
use Rattle.std.specs.Str.Parse.{AllDigits}
use Rattle.std.proofs.lemmas.Bool.{and_parts, or_parts}
use Rattle.std.proofs.lemmas.Fmt.{decimal_is_IsNumeral}
use Rattle.std.proofs.lemmas.List.Elements.{All-append, All-cons, All-nil}
use Rattle.std.proofs.lemmas.Str.Parse.{digit_from_value}
use Rattle.hex.specs.Hex.{encode_lower, encode_with, lower_digits}
use Rattle.lots_core.specs.Lists.{HasNoLineFeed}
use Rattle.lots_record.specs.Quoted.{byte_text, bytes_text, escape, escapes, is_hidden, letter_text, letters_text, quoted, shown}
use Rattle.lots_record.specs.Record.{sum_or_none}
use Rattle.lots_record.proofs.ClaimLemmas.{one_answer}
use Rattle.lots_record.proofs.SpellingLemmas.{lacks}

pub none : HasNoLineFeed []
none = All-nil (λ byte. byte ≢ 10)

more : (byte : ℕ) (bytes : List ℕ) → byte ≢ 10 → HasNoLineFeed bytes → HasNoLineFeed (byte ∷ bytes)
more byte bytes other rest = All-cons (λ byte. byte ≢ 10) byte bytes other rest

both : (xs ys : List ℕ) → HasNoLineFeed xs → HasNoLineFeed ys → HasNoLineFeed (xs ++ ys)
both xs ys first second = All-append (λ byte. byte ≢ 10) xs ys first second

each : (text : ℕ → List ℕ) → ((x : ℕ) → HasNoLineFeed (text x)) → (xs : List ℕ) → HasNoLineFeed (flat_map text xs)
each text plain [] = none
each text plain (x ∷ xs) = both (text x) (flat_map text xs) (plain x) (each text plain xs)

-- Hexadecimal digits.
digit_by : (digit : ℕ) (test : Bool) → cond test (48 + digit) (87 + digit) ≢ 10
digit_by digit true = λ is. absurd (omega (arith, is))
digit_by digit false = λ is. absurd (omega (arith, is))

plain_escape : (byte : ℕ) → HasNoLineFeed (escape byte)
plain_escape byte =
    let high = digit_char (byte / 16) in
    let low = digit_char (byte % 16) in
    more 92 (120 ∷ high ∷ low ∷ []) (λ is. absurd (omega (arith, is)))
    (more 120 (high ∷ low ∷ []) (λ is. absurd (omega (arith, is)))
    (more high (low ∷ []) (digit_by (byte / 16) (nat_lt (byte / 16) 10))
    (more low [] (digit_by (byte % 16) (nat_lt (byte % 16) 10)) none)))

plain_table : (table : List ℕ) → HasNoLineFeed table → (k : ℕ) → slice_index table k ≢ 10
plain_table [] plain k = λ is. absurd (omega (arith, is))
plain_table (digit ∷ digits) plain zero = plain 0 0 (omega arith)
plain_table (digit ∷ digits) plain (suc k) = plain_table digits (λ i d within. plain (suc i) d (omega (arith, within))) k

-- Bytes above 10 are not line feeds.
plain_by_test : (bytes : List ℕ) → list_all (nat_lt 10) bytes ≡ true → HasNoLineFeed bytes
plain_by_test [] above = none
plain_by_test (byte ∷ bytes) above =
    let parts = and_parts (nat_lt 10 byte) (list_all (nat_lt 10) bytes) above in
    more byte bytes (λ is. one_answer (nat_lt 10 byte) parts.0 (ap (nat_lt 10) is)) (plain_by_test bytes parts.1)

lower_plain : HasNoLineFeed lower_digits
lower_plain = plain_by_test lower_digits refl

plain_encoded : (sum : List ℕ) → HasNoLineFeed (encode_with lower_digits sum)
unfolding encode_with
plain_encoded [] = none
plain_encoded (byte ∷ bytes) =
    let high = slice_index lower_digits (byte / 16) in
    let low = slice_index lower_digits (byte % 16) in
    more high (low ∷ encode_with lower_digits bytes) (plain_table lower_digits lower_plain (byte / 16))
    (more low (encode_with lower_digits bytes) (plain_table lower_digits lower_plain (byte % 16)) (plain_encoded bytes))

pub plain_sum : (sum : List ℕ) → HasNoLineFeed (encode_lower sum)
plain_sum sum = plain_encoded sum

pub plain_one : HasNoLineFeed (codes "1")
plain_one = plain_by_test (codes "1") refl

pub plain_two : HasNoLineFeed (codes "2")
plain_two = plain_by_test (codes "2") refl

pub plain_sum_or_none : (sum : Option (List ℕ)) → HasNoLineFeed (sum_or_none sum)
plain_sum_or_none None = plain_by_test (codes "none") refl
plain_sum_or_none (Some sum) = plain_sum sum

-- Decimal digits.
plain_digits : (digits : List ℕ) → AllDigits 10 digits → HasNoLineFeed digits
plain_digits [] all = none
plain_digits (digit ∷ digits) all =
    let range = digit_from_value digit all.0 in
    more digit digits (λ is. absurd (omega (arith, is, range.0))) (plain_digits digits all.1)

pub plain_decimal : (n : ℕ) → n < 2 ^ 64 → HasNoLineFeed (decimal n)
plain_decimal n small = plain_digits (decimal n) (decimal_is_IsNumeral n small).0.1

-- A quoted text.
letter_plain : (letter : ℕ) (test : Bool) → test ≡ (letter == 92 || is_hidden letter)
    → HasNoLineFeed (cond test (escapes (encode_utf8 letter)) (encode_utf8 letter))
letter_plain letter true same = each escape plain_escape (encode_utf8 letter)
letter_plain letter false same =
    let shown = (or_parts (letter == 92) (is_hidden letter) (sym same)).1 in
    lacks letter 10 (omega arith) (λ is. one_answer (is_hidden letter) (ap is_hidden is) shown)

byte_plain : (byte : ℕ) (test : Bool) → test ≡ (byte == 92 || nat_lt byte 32 || nat_lt 126 byte)
    → HasNoLineFeed (cond test (escape byte) (byte ∷ []))
byte_plain byte true same = plain_escape byte
byte_plain byte false same =
    let low = (or_parts (byte == 92) (nat_lt byte 32) (or_parts (byte == 92 || nat_lt byte 32) (nat_lt 126 byte) (sym same)).0).1 in
    more byte [] (λ is. one_answer (nat_lt byte 32) (ap (λ b. nat_lt b 32) is) low) none

shown_plain : (bytes : List ℕ) (test : Bool) → HasNoLineFeed (cond test (letters_text bytes) (bytes_text bytes))
shown_plain bytes true = each letter_text (λ letter. letter_plain letter (letter == 92 || is_hidden letter) refl) (chars bytes)
shown_plain bytes false = each byte_text (λ byte. byte_plain byte (byte == 92 || nat_lt byte 32 || nat_lt 126 byte) refl) bytes

pub plain_quoted : (bytes : List ℕ) → HasNoLineFeed (quoted bytes)
plain_quoted bytes =
    more 34 (shown bytes ++ 34 ∷ []) (λ is. absurd (omega (arith, is)))
    (both (shown bytes) (34 ∷ []) (shown_plain bytes (is_utf8 bytes)) (more 34 [] (λ is. absurd (omega (arith, is))) none))
