-- How numbers are written in the command-line arguments.
use Rattle.std.specs.Prelude.{◌≡◌, ◌≢◌, ℕ, ◌^◌, ◌<◌, ◌==◌, Bool, if◌then◌else◌, List, length, slice_index, drop, ℤ, pos, neg_ℤ, FitsSigned}
use Rattle.std.specs.Int.{Width}
use Rattle.std.specs.Str.Parse.{IsNumeral, digits_value}

-- One or more decimal digits with the value n, which is below 2^bits.
pub record IsUnsigned (bits : ℕ) (text : List ℕ) (n : ℕ) : Type 0 where
  pub digits : IsNumeral 10 text
  pub value : n ≡ digits_value 10 text
  pub fits : n < 2 ^ bits

-- Whether the text begins with a minus sign.
abbrev pub is_negative : List ℕ → Bool
is_negative text = slice_index text 0 == 45

-- The digits after the minus sign, or the whole text.
abbrev pub magnitude : List ℕ → List ℕ
magnitude text = if is_negative text then drop 1 text else text

-- One or more decimal digits after at most one minus sign, with the value z, which fits the width.
pub record IsSigned (width : Width) (text : List ℕ) (z : ℤ) : Type 0 where
  pub digits : IsNumeral 10 (magnitude text)
  pub value : z ≡ (if is_negative text then neg_ℤ (pos (digits_value 10 (magnitude text)))
      else pos (digits_value 10 (magnitude text)))
  pub fits : FitsSigned width z

-- A text that cannot be mistaken for a part of a range: it is not empty, has no dot, and does not
-- begin with `=`.
pub record IsPlain (text : List ℕ) : Type 0 where
  pub some : 0 < length text
  pub no_dot : (index : ℕ) → index < length text → slice_index text index ≢ 46
  pub no_equals : slice_index text 0 ≢ 61
