-- Folding: a 64-bit word from a 128-bit number.
use Rattle.std.specs.Prelude.{ℕ, ◌/◌, ◌%◌, ◌^◌, bit_xor}

-- The xor of the high half and the low half of a 128-bit number.
abbrev pub folded : ℕ → ℕ
folded wide = bit_xor (wide / 2 ^ 64) (wide % 2 ^ 64)
