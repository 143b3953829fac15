-- The texts of numbers are plain. These are lemmas that the laws of impls use; a reader need not
-- trust them.
use Rattle.std.proofs.Common.{◌≡◌, ◌≢◌, ℕ, ◌<◌, Bool, true, false, if◌then◌else◌, eqb-true, refl, zero, suc, List, [], ◌∷◌, length, drop, get_or, arith}
use Rattle.std.proofs.lemmas.Str.Parse.{digit_at}
use Rattle.std.specs.Int.{Width}
use Rattle.std.specs.Prelude.{ℤ}
use Rattle.std.specs.Str.Parse.{IsNumeral}
use Rattle.draw_core.specs.Numbers.{IsUnsigned, IsSigned, IsPlain, is_negative, magnitude}

-- A numeral is plain.
digits_plain : (text : List ℕ) → IsNumeral 10 text → IsPlain text
digits_plain text digits = record {
  some = digits.0;
  no_dot = λ index within.
      let digit = digit_at text index digits.1 within in λ e. omega (arith, digit, e);
  no_equals = let digit = digit_at text 0 digits.1 digits.0 in λ e. omega (arith, digit, e);
}

pub unsigned_plain : (bits : ℕ) (text : List ℕ) (n : ℕ) → IsUnsigned bits text n → IsPlain text
unsigned_plain bits text n said = digits_plain text said.digits

-- A byte other than a dot in front of a text without dots.
no_dot_added : (c : ℕ) (text : List ℕ) → c ≢ 46
    → ((index : ℕ) → index < length text → get_or text index 0 ≢ 46)
    → (index : ℕ) → index < length (c ∷ text) → get_or (c ∷ text) index 0 ≢ 46
no_dot_added c text first others zero within = first
no_dot_added c text first others (suc index) within = others index (omega arith)

-- A minus in front of a plain text leaves it plain.
minus_plain : (text : List ℕ) → get_or text 0 0 ≡ 45 → IsPlain (drop 1 text) → IsPlain text
minus_plain [] minus plain = absurd (omega (arith, plain.some))
minus_plain (c ∷ text) minus plain = record {
  some = omega arith;
  no_dot = no_dot_added c text (λ e. omega (arith, minus, e)) plain.no_dot;
  no_equals = λ e. omega (arith, minus, e);
}

by_sign : (text : List ℕ) (negative : Bool) → is_negative text ≡ negative
    → IsPlain (if negative then drop 1 text else text) → IsPlain text
by_sign text true minus plain = minus_plain text (eqb-true _ _ minus) plain
by_sign text false plus plain = plain

pub signed_plain : (width : Width) (text : List ℕ) (z : ℤ) → IsSigned width text z → IsPlain text
signed_plain width text z said =
    by_sign text (is_negative text) refl (digits_plain (magnitude text) said.digits)
