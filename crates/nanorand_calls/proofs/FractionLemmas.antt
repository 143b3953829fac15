-- The division of a whole number below 2^53 by 2^53 rounds nothing.
use Rattle.std.proofs.Common.{◌≡◌, ℕ, ◌*◌, ◌^◌, ◌<◌, ◌≤◌, true, false, pos, refl, sym, ◌∙◌, ap, subst, arith, pow_pos}
use Rattle.std.specs.Float.{Float, binary64, nan, inf, fin, float_one, float_zero, ◌≤ᶠ◌, ◌<ᶠ◌}
use Rattle.std.specs.Float.Ieee.{div, of_int, of_bits, round, up, down}
use Rattle.std.specs.Float.Ieee.Back.{round_whole}
use Rattle.std.specs.Float.Ieee.Exact.{HasValue, round_exact}
use Rattle.std.specs.Float.Ieee.Fits.{down_pos}
use Rattle.std.specs.Float.Ieee.Order.{le_of_values}
use Rattle.std.specs.Float.Ieee.Scale.{round_same}
use Rattle.std.specs.Float.Order.{lt_at}
use mathlib.Core.Bool.{true≢false}
use lib.Dec.{T, lt→ltb}
use lib.Pow.{pow-add, pow-lt, shl_lt}
use native.Mathlib.Nat.{lt_trans, mul_assoc, mul-pos}

-- the divisor in the code
divisor : of_bits binary64 4845873199050653696 ≡ fin false 1 (pos 53)
unfolding of_bits
divisor = refl

-- a quotient by 2^53 is rounded once
quotient : (x : Float) (n : ℕ) → HasValue x false n 1 → div binary64 x (fin false 1 (pos 53)) ≡ round binary64 false n (2 ^ 53)
unfolding div
quotient nan n is = absurd is
quotient (inf s) n is = absurd is
quotient (fin true m e) n is = absurd (true≢false is.0)
quotient (fin false m e) n is =
    let whole : m * up e * 1 ≡ n * down e = is.1 in
    round_same binary64 false (m * up e * 1) (1 * 2 ^ 53 * down e) n (2 ^ 53)
    (mul-pos (pow_pos 53) (down_pos e)) (pow_pos 53) (omega (arith, ap (λ (k : ℕ). k * 2 ^ 53) whole))

-- and that rounding changes nothing
exact : (n : ℕ) → n < 2 ^ 53 → HasValue (round binary64 false n (2 ^ 53)) false n (2 ^ 53)
exact n low =
    let units : 2 ^ 1074 ≡ 2 ^ 1021 * 2 ^ 53 = pow-add 2 1021 53 in
    let less : n * 2 ^ 1021 < 2 ^ 1074 = shl_lt 53 1021 low in
    let far : 1074 < 2098 = omega arith in
    round_exact binary64 false n (2 ^ 53) n 1021 (pow_pos 53) low (lt_trans less (pow-lt far))
    (ap (λ (k : ℕ). n * k) units ∙ sym (mul_assoc n (2 ^ 1021) (2 ^ 53)))

module _ (n : ℕ) (low : n < 2 ^ 53) where
  pub quotient-exact : HasValue (div binary64 (of_int binary64 (pos n)) (of_bits binary64 4845873199050653696)) false n (2 ^ 53)
  unfolding of_int
  quotient-exact =
      let fits : n ≤ 2 ^ 53 = omega arith in
      rw (divisor, quotient (of_int binary64 (pos n)) n (round_whole binary64 false n fits)) (exact n low)

-- a fraction of 2^53 below it is a number below 1
pub fraction-within : (x : Float) (n : ℕ) → n < 2 ^ 53 → HasValue x false n (2 ^ 53) → (float_zero ≤ᶠ x) × (x <ᶠ float_one)
fraction-within x n low is =
    let zero : HasValue float_zero false 0 1 = (refl, refl) in
    let one : HasValue float_one false 1 1 = (refl, refl) in
    let below : n * 1 < 1 * 2 ^ 53 = omega arith in (
      le_of_values float_zero x 0 1 n (2 ^ 53) (omega arith) (pow_pos 53) zero is (omega arith),
      subst T (sym (lt_at x float_one n (2 ^ 53) 1 1 (pow_pos 53) (omega arith) is one)) (lt→ltb (n * 1) (1 * 2 ^ 53) below),
    )
