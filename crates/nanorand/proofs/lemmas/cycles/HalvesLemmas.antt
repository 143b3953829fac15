-- The top bit of a folded number.
use Rattle.std.proofs.Common.{◌≡◌, ℕ, ◌+◌, ◌*◌, ◌/◌, ◌%◌, ◌^◌, ◌<◌, inl, inr, sym, ap, ◌∙◌, arith, lit<, bit_xor}
use Rattle.std.specs.Int.Bits.{xor_block, xor_shifted, xor_assoc, xor_zero_l, xor_zero_r, xor_self}
use Rattle.std.proofs.lemmas.Nat.{xor_comm, xor_lt}
use Rattle.std.proofs.lemmas.Bool.{cases_lt}
use Rattle.nanorand.specs.generators.Halves.{folded}

-- adding 2 ^ 63 modulo 2 ^ 64 flips the top bit
xor-top : (n : ℕ) → n < 2 ^ 64 → (n + 2 ^ 63) % 2 ^ 64 ≡ bit_xor n (2 ^ 63)
xor-top n fits =
    elim (cases_lt n (2 ^ 63)) [
      | inl low ↦
          let sum : (n + 2 ^ 63) % 2 ^ 64 ≡ 1 * 2 ^ 63 + n = omega arith in
          sum ∙ sym (xor_shifted 1 63 n low) ∙ xor_comm (1 * 2 ^ 63) n
      | inr high ↦
          let r = n % 2 ^ 63 in
          let r_fits : r < 2 ^ 63 = omega arith in
          let parts : n ≡ 1 * 2 ^ 63 + r = omega arith in
          let sum : (n + 2 ^ 63) % 2 ^ 64 ≡ r = omega arith in
          let joined : bit_xor (1 * 2 ^ 63 + r) (1 * 2 ^ 63 + 0) ≡ 0 * 2 ^ 63 + bit_xor r 0 = xor_block 63 1 1 r 0 r_fits (lit< tt) in
          let cleared : r ≡ 0 * 2 ^ 63 + bit_xor r 0 = omega (arith, xor_zero_r r) in
          sum ∙ cleared ∙ sym joined ∙ ap (λ (m : ℕ). bit_xor m (2 ^ 63)) (sym parts)
    ]

-- adding 2 ^ 127 modulo 2 ^ 128 flips the top bit of the folded number
pub folded-top : (n : ℕ) → n < 2 ^ 128 → folded ((n + 2 ^ 127) % 2 ^ 128) ≡ bit_xor (folded n) (2 ^ 63)
folded-top n fits =
    let high = n / 2 ^ 64 in
    let low = n % 2 ^ 64 in
    let high_is : (n + 2 ^ 127) % 2 ^ 128 / 2 ^ 64 ≡ (high + 2 ^ 63) % 2 ^ 64 = omega arith in
    let low_is : (n + 2 ^ 127) % 2 ^ 128 % 2 ^ 64 ≡ low = omega arith in
    ap (λ (h : ℕ). bit_xor h ((n + 2 ^ 127) % 2 ^ 128 % 2 ^ 64)) (high_is ∙ xor-top high (omega arith))
    ∙ ap (bit_xor (bit_xor high (2 ^ 63))) low_is
    ∙ xor_assoc high (2 ^ 63) low ∙ ap (bit_xor high) (xor_comm (2 ^ 63) low) ∙ sym (xor_assoc high low (2 ^ 63))

pub folded-lt : (n : ℕ) → n < 2 ^ 128 → folded n < 2 ^ 64
folded-lt n fits = xor_lt 64 (n / 2 ^ 64) (n % 2 ^ 64) (omega arith) (omega arith)

-- flipping the top bit changes a number
pub xor_apart : (n : ℕ) → bit_xor n (2 ^ 63) ≡ n → ⊥
xor_apart n same =
    let cleared : 2 ^ 63 ≡ 0 = sym (xor_zero_l (2 ^ 63)) ∙ ap (λ (z : ℕ). bit_xor z (2 ^ 63)) (sym (xor_self n)) ∙ xor_assoc n n (2 ^ 63)
    ∙ ap (bit_xor n) same ∙ xor_self n in
    omega arith
