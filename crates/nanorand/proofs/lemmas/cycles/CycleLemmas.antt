-- The cycles of the walks x ↦ a * x + c with a = 16 * u + 7 and c = 8 * v + 7, modulo 8 * 2 ^ i. A
-- stride is 2 ^ suc i steps.
use Rattle.std.proofs.Common.{◌≡◌, ℕ, zero, suc, ◌+◌, ◌*◌, ◌/◌, ◌%◌, ◌^◌, ◌<◌, ◌⊎◌, inl, inr, lit<, sym, ap, ◌∙◌, arith}
use Rattle.std.proofs.Math.Nat.{pow-suc, two-pow-succ, mod-add-div', mul_comm, add-mul-mod_self_left, mul-pos}
use Rattle.std.proofs.Math.Nat.{eq_of_mul-eq-mul_left, one-mul, dvd-mul_right, mod-mod_of_dvd, add-mod_right}
use Rattle.std.proofs.Math.Nat.{add-div_right}
use Rattle.std.proofs.Math.Arith.{mod-mul}
use Rattle.std.proofs.Math.Pow.{pow_pos}
use Rattle.nanorand.proofs.lemmas.cycles.ModulusLemmas.{parity, mod_cancel_left, mul-mod-mul}
use Rattle.nanorand.specs.support.Pcg64DrawLemmas.{affine_after-add}
use Rattle.nanorand.proofs.lemmas.cycles.DoublingLemmas.{walk, walk-zero, walk-suc, moves_far, walk_mod_8}

-- n steps are n % 2 ^ suc i steps and then n / 2 ^ suc i strides
by_strides : (u v i n s : ℕ) → (z : ℕ)
    × (walk u v n s ≡ walk u v (n % 2 ^ suc i) s + n / 2 ^ suc i * (8 * 2 ^ i) + 8 * 2 ^ i * 2 * z)
by_strides u v i n s =
    let e = n / 2 ^ suc i in
    let t = walk u v (n % 2 ^ suc i) s in
    let far = moves_far u v i e t in
    let turned : t + e * (8 * 2 ^ i) + 16 * 2 ^ i * far.0 ≡ t + e * (8 * 2 ^ i) + 8 * 2 ^ i * 2 * far.0 = omega arith in (
      far.0,
      ap (λ (k : ℕ). walk u v k s) (sym (mod-add-div' n (2 ^ suc i)))
          ∙ affine_after-add _ _ (n % 2 ^ suc i) (e * 2 ^ suc i) s ∙ far.1 ∙ turned,
    )

-- steps that agree modulo 2 ^ suc i lead to the same number modulo 8 * 2 ^ i
pub walk-same : (u v i m n s : ℕ) → m % 2 ^ suc i ≡ n % 2 ^ suc i → walk u v m s % (8 * 2 ^ i) ≡ walk u v n s % (8 * 2 ^ i)
walk-same u v i m n s same = to_remainder m ∙ ap (λ (k : ℕ). walk u v k s % (8 * 2 ^ i)) same ∙ sym (to_remainder n)
  where
    to_remainder : (n : ℕ) → walk u v n s % (8 * 2 ^ i) ≡ walk u v (n % 2 ^ suc i) s % (8 * 2 ^ i)
    to_remainder n =
        let strides = by_strides u v i n s in
        let t = walk u v (n % 2 ^ suc i) s in
        let e = n / 2 ^ suc i in
        let parts : t + e * (8 * 2 ^ i) + 8 * 2 ^ i * 2 * strides.0 ≡ t + 8 * 2 ^ i * (e + 2 * strides.0) = omega arith in
        ap (λ (k : ℕ). k % (8 * 2 ^ i)) (strides.1 ∙ parts) ∙ add-mul-mod_self_left t (8 * 2 ^ i) (e + 2 * strides.0)

-- if two numbers of strides lead from one number to the same number, modulo two strides, they have
-- the same parity
same_parity : (q t e f z w : ℕ) → 0 < q
    → (t + e * q + q * 2 * z) % (q * 2) ≡ (t + f * q + q * 2 * w) % (q * 2) → e % 2 ≡ f % 2
same_parity q t e f z w pos same =
    let whole : (t + q * e) % (q * 2) ≡ (t + q * f) % (q * 2) =
    sym (shorter e z) ∙ same ∙ shorter f w in
    eq_of_mul-eq-mul_left q pos (e % 2) (f % 2)
    (sym (mul-mod-mul q e 2 pos (lit< tt)) ∙ mod_cancel_left (q * 2) t (q * e) (q * f) whole ∙ mul-mod-mul q f 2 pos (lit< tt))
  where
    shorter : (e z : ℕ) → (t + e * q + q * 2 * z) % (q * 2) ≡ (t + q * e) % (q * 2)
    shorter e z =
        let turned : t + e * q + q * 2 * z ≡ (t + q * e) + q * 2 * z = omega arith in
        ap (λ (k : ℕ). k % (q * 2)) turned ∙ add-mul-mod_self_left (t + q * e) (q * 2) z

-- the modulus doubles with 2 ^ i
pub twice_wide : (i : ℕ) → 8 * 2 ^ suc i ≡ 8 * 2 ^ i * 2
twice_wide i = omega (arith, two-pow-succ i)

-- numbers that are equal modulo 2 * q are equal modulo q
pub coarser : (q a b : ℕ) → a % (q * 2) ≡ b % (q * 2) → a % q ≡ b % q
coarser q a b same =
    let divides = dvd-mul_right q 2 in
    sym (mod-mod_of_dvd q a divides) ∙ ap (λ (n : ℕ). n % q) same ∙ mod-mod_of_dvd q b divides

-- a remainder modulo twice q, split at its top bit
split_two : (q n : ℕ) → 0 < q → n % (q * 2) ≡ n / q % 2 * q + n % q
split_two q n pos = ap (λ (m : ℕ). n % m) (mul_comm q 2) ∙ mod-mul n (lit< tt) pos

longer : (i n : ℕ) → n % 2 ^ suc (suc i) ≡ n / 2 ^ suc i % 2 * 2 ^ suc i + n % 2 ^ suc i
longer i n = ap (λ (m : ℕ). n % m) (pow-suc 2 (suc i)) ∙ split_two (2 ^ suc i) n (pow_pos (suc i))

-- if steps lead to the same number modulo 8 * 2 ^ i, their numbers agree modulo 2 ^ suc i
pub same-walk : (u v i m n s : ℕ) → walk u v m s % (8 * 2 ^ i) ≡ walk u v n s % (8 * 2 ^ i) → m % 2 ^ suc i ≡ n % 2 ^ suc i
same-walk u v zero m n s same =
    elim (walk_mod_8 u v m s) [
      | inl even ↦ elim (walk_mod_8 u v n s) [
        | inl even' ↦ even.0 ∙ sym even'.0
        | inr odd' ↦ absurd (omega (arith, even, odd', same))
      ]
      | inr odd ↦ elim (walk_mod_8 u v n s) [
        | inl even' ↦ absurd (omega (arith, odd, even', same))
        | inr odd' ↦ odd.0 ∙ sym odd'.0
      ]
    ]
same-walk u v (suc i) m n s same =
    let q = 8 * 2 ^ i in
    let pos : 0 < q = mul-pos {n = 2 ^ i} (lit< tt) (pow_pos i) in
    let finer : walk u v m s % (q * 2) ≡ walk u v n s % (q * 2) =
    ap (λ (r : ℕ). walk u v m s % r) (sym (twice_wide i)) ∙ same ∙ ap (λ (r : ℕ). walk u v n s % r) (twice_wide i) in
    let low : m % 2 ^ suc i ≡ n % 2 ^ suc i = same-walk u v i m n s (coarser q (walk u v m s) (walk u v n s) finer) in
    let by_m = by_strides u v i m s in
    let by_n = by_strides u v i n s in
    let from_m : walk u v (m % 2 ^ suc i) s ≡ walk u v (n % 2 ^ suc i) s = ap (λ (k : ℕ). walk u v k s) low in
    let same_sums =
    ap (λ (t : ℕ). (t + m / 2 ^ suc i * q + q * 2 * by_m.0) % (q * 2)) (sym from_m) ∙ ap (λ (k : ℕ). k % (q * 2)) (sym by_m.1)
    ∙ finer ∙ ap (λ (k : ℕ). k % (q * 2)) by_n.1 in
    let high : m / 2 ^ suc i % 2 ≡ n / 2 ^ suc i % 2 =
    same_parity q (walk u v (n % 2 ^ suc i) s) (m / 2 ^ suc i) (n / 2 ^ suc i) by_m.0 by_n.0 pos same_sums in
    longer i m ∙ ap (λ (b : ℕ). b * 2 ^ suc i + m % 2 ^ suc i) high ∙ ap (λ (r : ℕ). n / 2 ^ suc i % 2 * 2 ^ suc i + r) low ∙ sym (longer i n)

-- one stride of 2 ^ suc i steps adds 8 * 2 ^ i, modulo twice that
pub walk_stride : (u v i n s : ℕ)
    → walk u v (n + 2 ^ suc i) s % (8 * 2 ^ i * 2) ≡ (walk u v n s + 8 * 2 ^ i) % (8 * 2 ^ i * 2)
walk_stride u v i n s =
    let q = 8 * 2 ^ i in
    let t = walk u v n s in
    let far = moves_far u v i 1 t in
    let sum : t + 1 * q + 16 * 2 ^ i * far.0 ≡ (t + q) + q * 2 * far.0 = omega arith in
    ap (λ (k : ℕ). k % (q * 2))
    (affine_after-add _ _ n (2 ^ suc i) s ∙ ap (λ (k : ℕ). walk u v k t) (sym (one-mul (2 ^ suc i))) ∙ far.1 ∙ sum)
    ∙ add-mul-mod_self_left (t + q) (q * 2) far.0

-- if n is t modulo q, then n or n + q is t modulo twice q
one_bit_more : (q n t : ℕ) → 0 < q → n % q ≡ t % q → (n % (q * 2) ≡ t % (q * 2)) ⊎ ((n + q) % (q * 2) ≡ t % (q * 2))
one_bit_more q n t pos same =
    let lifted : (a : ℕ) → a % q ≡ t % q → a / q % 2 ≡ t / q % 2 → a % (q * 2) ≡ t % (q * 2) =
    λ a low high. split_two q a pos ∙ ap (λ (b : ℕ). b * q + a % q) high ∙ ap (λ (r : ℕ). t / q % 2 * q + r) low ∙ sym (split_two q t pos) in
    elim (parity (n / q + t / q)) [
      | inl even ↦ inl (lifted n same (omega arith))
      | inr odd ↦ inr (lifted (n + q) (add-mod_right n q ∙ same) (ap (λ (b : ℕ). b % 2) (add-div_right n pos) ∙ omega arith))
    ]

-- from s some number of steps leads to t, modulo 8 * 2 ^ i, if one leads there modulo 8
pub reaches : (u v i s t : ℕ) → (s % 8 ≡ t % 8) ⊎ ((s + t) % 8 ≡ 7) → (n : ℕ) × (walk u v n s % (8 * 2 ^ i) ≡ t % (8 * 2 ^ i))
reaches u v zero s t class =
    elim class [
      | inl same ↦ (0, ap (λ (n : ℕ). n % 8) (walk-zero u v s) ∙ same)
      | inr mirrored ↦ (1, omega (arith, walk-suc u v 0 s, walk-zero u v s))
    ]
reaches u v (suc i) s t class =
    let q = 8 * 2 ^ i in
    let lower = reaches u v i s t class in
    let wider = ap (λ (m : ℕ). t % m) (sym (twice_wide i)) in
    elim (one_bit_more q (walk u v lower.0 s) t (mul-pos {n = 2 ^ i} (lit< tt) (pow_pos i)) lower.1) [
      | inl there ↦ (lower.0, ap (λ (m : ℕ). walk u v lower.0 s % m) (twice_wide i) ∙ there ∙ wider)
      | inr next ↦
          let n = lower.0 + 2 ^ suc i in
          (n, ap (λ (m : ℕ). walk u v n s % m) (twice_wide i) ∙ walk_stride u v i lower.0 s ∙ next ∙ wider)
    ]
