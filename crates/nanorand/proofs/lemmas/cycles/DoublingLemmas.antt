-- The walks x ↦ a * x + c with a = 16 * u + 7 and c = 8 * v + 7, on unbounded numbers and modulo
-- powers of two. Twice as many steps make a map of the same shape.
use Rattle.std.proofs.Common.{◌≡◌, ℕ, zero, suc, ◌+◌, ◌*◌, ◌%◌, ◌^◌, ◌⊎◌, inl, inr, refl, sym, ap, ◌∙◌, arith}
use Rattle.std.proofs.Math.Nat.{two-pow-succ, suc-mul, zero-mul}
use Rattle.nanorand.specs.generators.Pcg64.{affine_after}
use Rattle.nanorand.specs.support.Pcg64DrawLemmas.{affine_after-zero, affine_after-suc, affine_after-add}

abbrev pub walk : ℕ → ℕ → ℕ → ℕ → ℕ
walk u v n s = affine_after (16 * u + 7) (8 * v + 7) n s

pub walk-zero : (u v s : ℕ) → walk u v 0 s ≡ s
walk-zero u v s = affine_after-zero (16 * u + 7) (8 * v + 7) s

pub walk-suc : (u v n s : ℕ) → walk u v (suc n) s ≡ (16 * u + 7) * walk u v n s + (8 * v + 7)
walk-suc u v n s = affine_after-suc (16 * u + 7) (8 * v + 7) n s

-- 2 ^ suc i steps, with p = 2 ^ i, as one map
pub record IsDoubled (u v i : ℕ) : Type 0 where
  pub x : ℕ
  pub y : ℕ
  pub moves : (s : ℕ) → walk u v (2 ^ suc i) s
      ≡ s + 8 * 2 ^ i * (2 * y + 1) + 16 * 2 ^ i * x * s

-- such a map, applied twice
twice : (p x y s : ℕ) →
    let moved = s + 8 * p * (2 * y + 1) + 16 * p * x * s in
    moved + 8 * p * (2 * y + 1) + 16 * p * x * moved
    ≡ s + 8 * (p + p) * (2 * (y + 4 * p * x * (2 * y + 1)) + 1) + 16 * (p + p) * (x + 8 * p * x * x) * s
twice p x y s = omega arith

-- n steps that make such a map, applied twice
twice_moves : (a c n p x y s : ℕ) → ((s : ℕ) → affine_after a c n s ≡ s + 8 * p * (2 * y + 1) + 16 * p * x * s)
    → affine_after a c (n + n) s
    ≡ s + 8 * (p + p) * (2 * (y + 4 * p * x * (2 * y + 1)) + 1) + 16 * (p + p) * (x + 8 * p * x * x) * s
twice_moves a c n p x y s moves = affine_after-add a c n n s ∙ moves (affine_after a c n s)
    ∙ ap (λ (t : ℕ). t + 8 * p * (2 * y + 1) + 16 * p * x * t) (moves s) ∙ twice p x y s

pub doubled : (u v i : ℕ) → IsDoubled u v i
doubled u v zero = record {
  x = 16 * u * u + 14 * u + 3;
  y = 8 * u * v + 7 * u + 4 * v + 3;
  moves = λ s. walk-suc u v 1 s
      ∙ ap (λ (t : ℕ). (16 * u + 7) * t + (8 * v + 7))
      (walk-suc u v 0 s ∙ ap (λ (t : ℕ). (16 * u + 7) * t + (8 * v + 7)) (walk-zero u v s)) ∙ omega arith;
}
doubled u v (suc i) =
    let last = doubled u v i in
    let p = 2 ^ i in
    record {
      x = last.x + 8 * p * last.x * last.x;
      y = last.y + 4 * p * last.x * (2 * last.y + 1);
      moves = λ s. ap (λ (n : ℕ). walk u v n s) (two-pow-succ (suc i))
          ∙ twice_moves _ _ (2 ^ suc i) p last.x last.y s last.moves
          ∙ ap (λ (q : ℕ). s + 8 * q * (2 * (last.y + 4 * p * last.x * (2 * last.y + 1)) + 1)
          + 16 * q * (last.x + 8 * p * last.x * last.x) * s) (sym (two-pow-succ i));
    }

-- e * 2 ^ suc i steps add e * (8 * 2 ^ i), modulo 16 * 2 ^ i
pub moves_far : (u v i e s : ℕ) → (z : ℕ)
    × (walk u v (e * 2 ^ suc i) s ≡ s + e * (8 * 2 ^ i) + 16 * 2 ^ i * z)
moves_far u v i zero s = (
  0,
  ap (λ (n : ℕ). walk u v n s) (zero-mul (2 ^ suc i)) ∙ walk-zero u v s
      ∙ (let e : s ≡ s + 0 * (8 * 2 ^ i) + 16 * 2 ^ i * 0 = omega arith in e),
)
moves_far u v i (suc e) s =
    let map = doubled u v i in
    let before = moves_far u v i e s in
    let p = 2 ^ i in
    let t = s + e * (8 * p) + 16 * p * before.0 in
    let sum : t + 8 * p * (2 * map.y + 1) + 16 * p * map.x * t ≡ s + suc e * (8 * p) + 16 * p * (before.0 + map.y + map.x * t) = omega arith in (
      before.0 + map.y + map.x * t,
      ap (λ (n : ℕ). walk u v n s) (suc-mul e (2 ^ suc i))
          ∙ affine_after-add _ _ (e * 2 ^ suc i) (2 ^ suc i) s
          ∙ map.moves _ ∙ ap (λ (t : ℕ). t + 8 * p * (2 * map.y + 1) + 16 * p * map.x * t) before.1 ∙ sum,
    )

-- modulo 8 a step takes s to 7 - s
step_mod_8 : (u v s : ℕ) → ((16 * u + 7) * s + (8 * v + 7)) % 8 + s % 8 ≡ 7
step_mod_8 u v s = omega arith

-- an even number of steps keeps s modulo 8, and an odd number takes it to 7 - s
pub walk_mod_8 : (u v n s : ℕ)
    → ((n % 2 ≡ 0) × (walk u v n s % 8 ≡ s % 8))
    ⊎ ((n % 2 ≡ 1) × (walk u v n s % 8 + s % 8 ≡ 7))
walk_mod_8 u v zero s = inl (refl, ap (λ (t : ℕ). t % 8) (walk-zero u v s))
walk_mod_8 u v (suc n) s =
    elim (walk_mod_8 u v n s) [
      | inl even ↦ inr (omega (arith, even.0), omega (arith, even.1, step_mod_8 u v (walk u v n s), walk-suc u v n s))
      | inr odd ↦ inl (omega (arith, odd.0), omega (arith, odd.1, step_mod_8 u v (walk u v n s), walk-suc u v n s))
    ]
