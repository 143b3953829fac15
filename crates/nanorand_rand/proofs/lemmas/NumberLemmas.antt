-- The numbers that the bytes of words form.
use Rattle.std.proofs.Common.{◌≡◌, ℕ, ◌+◌, ◌*◌, ◌/◌, ◌%◌, ◌^◌, ◌<◌, ◌++◌, ◌∙◌, arith}
use Rattle.std.proofs.lemmas.Nat.{from_le_bytes-to_le_bytes_8}
use Rattle.std.specs.Int.{w32, w64, to_le_bytes}
use Rattle.nanorand_core.specs.values.Values.{number_of}
use native.Mathlib.Nat as nat

-- A digit in base 256, and the digits above it.
digit : (n p : ℕ) → n / p ≡ n / p % 256 + n / (p * 256) * 256
digit n p = omega (arith, nat.div-div-eq-div-mul n p 256)

nested_4 : (a b c d p q r s n : ℕ) → n ≡ a + p * 256 → p ≡ b + q * 256 → q ≡ c + r * 256 → r ≡ d + s * 256
    → n ≡ a + 256 * (b + 256 * (c + 256 * (d + 256 * 0))) + s * 2 ^ 32
nested_4 a b c d p q r s n at_0 at_1 at_2 at_3 = omega arith

-- Four bytes of a number hold its low 32 bits.
pub low_32 : (n : ℕ) → number_of (to_le_bytes w32 n) ≡ n % 2 ^ 32
low_32 n =
    let first : n ≡ n % 256 + n / 256 * 256 = omega arith in
    omega (arith, nested_4 _ _ _ _ _ _ _ _ n first (digit n 256) (digit n 65536) (digit n 16777216))

nested_8 : (a b c d e f g h : ℕ)
    → a + 256 * (b + 256 * (c + 256 * (d + 256 * (e + 256 * (f + 256 * (g + 256 * (h + 256 * 0)))))))
    ≡ a + b * 256 + c * 65536 + d * 16777216 + e * 4294967296 + f * 1099511627776 + g * 281474976710656 + h * 72057594037927936
nested_8 a b c d e f g h = omega arith

-- Eight bytes hold a number of 64 bits.
pub whole_64 : (n : ℕ) → n < 2 ^ 64 → number_of (to_le_bytes w64 n) ≡ n
whole_64 n fits = nested_8 _ _ _ _ _ _ _ _ ∙ from_le_bytes-to_le_bytes_8 n fits

joined : (a b c d n : ℕ) → a + 256 * (b + 256 * (c + 256 * (d + 256 * n)))
    ≡ a + 256 * (b + 256 * (c + 256 * (d + 256 * 0))) + n * 2 ^ 32
joined a b c d n = omega arith

-- Two words of 32 bits, with the low one first.
pub two_words : (low high : ℕ) → low < 2 ^ 32 → high < 2 ^ 32
    → number_of (to_le_bytes w32 low ++ to_le_bytes w32 high) ≡ low + high * 2 ^ 32
two_words low high fits_low fits_high =
    joined _ _ _ _ _ ∙ omega (arith, low_32 low, low_32 high)
