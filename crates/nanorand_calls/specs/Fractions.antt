-- A word as a floating-point number below 1.
use Rattle.std.specs.Prelude.{ℕ, ◌/◌, ◌^◌, false}
use Rattle.std.specs.Float.{Float}
use Rattle.std.specs.Float.Ieee.Exact.{HasValue}

-- The number is exactly the top 53 bits of a word of 64 bits, divided by 2^53: it is finite, has no
-- minus sign, and nothing was rounded. Of a floating-point number that is significand * 2^exponent,
-- `HasValue` says that this product is the fraction, as an equation between whole numbers.
abbrev pub IsFractionOf : ℕ → Float → Type 0
IsFractionOf word number = HasValue number false (word / 2 ^ 11) (2 ^ 53)
