-- Remainders, most of them modulo powers of two.
use Rattle.std.proofs.Common.{◌≡◌, ◌≢◌, ℕ, zero, suc, ◌+◌, ◌*◌, ◌/◌, ◌%◌, ◌^◌, ◌<◌, ◌⊎◌, inl, inr, lit<, refl, sym, ap, ◌∙◌, arith}
use Rattle.std.proofs.Math.Nat.{pow-suc, pow-succ', mul-one, add-mul-mod_self_right, mod-eq_of_lt, div-add-mod', mul-lt-mul_of_pos_left, mod-lt}
use Rattle.std.proofs.Math.Pow.{pow_pos}

pub parity : (n : ℕ) → (n % 2 ≡ 0) ⊎ (n % 2 ≡ 1)
parity zero = inl refl
parity (suc n) = elim (parity n) [
  | inl even ↦ inr (omega arith)
  | inr odd ↦ inl (omega arith)
]

-- a term on both sides of a congruence cancels
pub mod_cancel_left : (m a b c : ℕ) → (a + b) % m ≡ (a + c) % m → b % m ≡ c % m
mod_cancel_left m a b c same =
    let p = (a + b) / m in
    let q = (a + c) / m in
    let crossed : b + q * m ≡ c + p * m = omega (arith, div-add-mod' (a + b) m, div-add-mod' (a + c) m) in
    sym (add-mul-mod_self_right b q m) ∙ ap (λ (n : ℕ). n % m) crossed ∙ add-mul-mod_self_right c p m

-- a common factor comes out of a remainder
pub mul-mod-mul : (q n k : ℕ) → 0 < q → 0 < k → (q * n) % (q * k) ≡ q * (n % k)
mul-mod-mul q n k q_pos k_pos =
    let parts : q * n ≡ q * (n % k) + n / k * (q * k) =
    ap (λ (m : ℕ). q * m) (sym (div-add-mod' n k)) ∙ (let e : q * (n / k * k + n % k) ≡ q * (n % k) + n / k * (q * k) = omega arith in e) in
    ap (λ (m : ℕ). m % (q * k)) parts ∙ add-mul-mod_self_right (q * (n % k)) (n / k) (q * k)
    ∙ mod-eq_of_lt (mul-lt-mul_of_pos_left (mod-lt n k_pos) q_pos)

-- a number that 2 ^ suc w does not divide has a multiple that is 2 ^ w modulo 2 ^ suc w
pub half_multiple : (w d : ℕ) → d % 2 ^ suc w ≢ 0 → (k : ℕ) × ((k * d) % 2 ^ suc w ≡ 2 ^ w)
half_multiple zero d apart =
    elim (parity d) [
      | inl even ↦ absurd (apart even)
      | inr odd ↦ (1, omega arith)
    ]
half_multiple (suc w) d apart =
    let m = 2 ^ suc w in
    let pos : 0 < m = pow_pos (suc w) in
    elim (parity d) [
      | inl even ↦
          let whole : d ≡ 2 * (d / 2) = omega arith in
          let half_apart : (d / 2) % m ≢ 0 =
          λ none. apart (ap (λ (n : ℕ). n % 2 ^ suc (suc w)) whole ∙ ap (λ (q : ℕ). (2 * (d / 2)) % q) (pow-succ' 2 (suc w))
          ∙ mul-mod-mul 2 (d / 2) m (lit< tt) pos ∙ ap (λ (r : ℕ). 2 * r) none) in
          let found = half_multiple w (d / 2) half_apart in
          let doubled : found.0 * d ≡ 2 * (found.0 * (d / 2)) =
          ap (λ (e : ℕ). found.0 * e) whole ∙ (let e : found.0 * (2 * (d / 2)) ≡ 2 * (found.0 * (d / 2)) = omega arith in e) in (
            found.0,
            ap (λ (n : ℕ). n % 2 ^ suc (suc w)) doubled ∙ ap (λ (q : ℕ). (2 * (found.0 * (d / 2))) % q) (pow-succ' 2 (suc w))
                ∙ mul-mod-mul 2 (found.0 * (d / 2)) m (lit< tt) pos ∙ ap (λ (r : ℕ). 2 * r) found.1 ∙ sym (pow-succ' 2 w),
          )
      | inr odd ↦ (m, ap (λ (q : ℕ). (m * d) % q) (pow-suc 2 (suc w)) ∙ mul-mod-mul m d 2 pos (lit< tt) ∙ ap (λ (r : ℕ). m * r) odd ∙ mul-one m)
    ]
