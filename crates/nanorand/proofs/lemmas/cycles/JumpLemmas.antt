-- Jumps of Pcg64: affine maps that make many draws at once, and a loop that composes them by
-- repeated doubling.
use Rattle.std.proofs.Common.{◌≡◌, ℕ, ◌+◌, ◌*◌, ◌/◌, ◌%◌, ◌^◌, ◌<◌, sym, ap, ◌∙◌, arith}
use Rattle.std.proofs.Math.Nat.{mod-add-mod, add-mod-mod, add-mod, mod-eq_of_lt, zero-mul}
use Rattle.std.proofs.lemmas.Nat.{mul-mod_first, mul-mod_second}
use Rattle.nanorand.specs.generators.Pcg64.{factor, term, seed_after}
use Rattle.nanorand.specs.support.Pcg64DrawLemmas.{seed_after-zero, seed_after-one, seed_after-add}

-- the map s ↦ f * s + t makes k draws
pub record Makes (f t k : ℕ) : Type 0 where
  pub draws : (s : ℕ) → (f * s + t) % 2 ^ 128 ≡ seed_after k s

pub Makes-one : Makes factor term 1
Makes-one = record { draws = λ s. sym (seed_after-one s) }

-- the map applied twice, modulo any m
map_twice : (m f t s : ℕ) → (f * f % m * s + (f + 1) % m * t % m) % m ≡ (f * ((f * s + t) % m) + t) % m
map_twice m f t s =
    let composed : f * f * s + (f + 1) * t ≡ f * (f * s + t) + t = omega arith in
    add-mod-mod (f * f % m * s) ((f + 1) % m * t) m ∙ add-mod (f * f % m * s) ((f + 1) % m * t) m
    ∙ ap (λ (x : ℕ). (x + (f + 1) % m * t % m) % m) (mul-mod_first (f * f) s m)
    ∙ ap (λ (x : ℕ). (f * f * s % m + x) % m) (mul-mod_first (f + 1) t m)
    ∙ sym (add-mod (f * f * s) ((f + 1) * t) m) ∙ ap (λ (x : ℕ). x % m) composed
    ∙ sym (mod-add-mod (f * (f * s + t)) m t)
    ∙ ap (λ (x : ℕ). (x + t) % m) (sym (mul-mod_second f (f * s + t) m)) ∙ mod-add-mod (f * ((f * s + t) % m)) m t

pub Makes-twice : (f t k : ℕ) → Makes f t k → Makes (f * f % 2 ^ 128) ((f + 1) % 2 ^ 128 * t % 2 ^ 128) (k + k)
Makes-twice f t k makes = record {
  draws = λ s.
      map_twice (2 ^ 128) f t s ∙ ap (λ (x : ℕ). (f * x + t) % 2 ^ 128) (makes.draws s) ∙ makes.draws (seed_after k s) ∙ sym (seed_after-add k k s);
}

-- the map as the code computes it, with wrapping products and sums
pub Makes-wrapping : (f t k s : ℕ) → Makes f t k → (f * s % 2 ^ 128 + t) % 2 ^ 128 ≡ seed_after k s
Makes-wrapping f t k s makes = mod-add-mod (f * s) (2 ^ 128) t ∙ makes.draws s

-- the invariant: the `left` strides that remain lead to the same seed as all draws from the start
pub record IsOnWay (f t left seed draws start : ℕ) : Type 0 where
  pub stride : ℕ
  pub makes : Makes f t stride
  pub leads : seed_after (left * stride) seed ≡ seed_after draws start

pub IsOnWay-start : (draws start : ℕ) → IsOnWay factor term draws start draws start
IsOnWay-start draws start = record { stride = 1; makes = Makes-one; leads = ap (λ (n : ℕ). seed_after n start) (omega arith) }

-- half as many strides, each of twice as many draws
halved : (left k : ℕ) → left % 2 * k + left / 2 * (k + k) ≡ left * k
halved left k =
    let whole : left % 2 + left / 2 * 2 ≡ left = omega arith in
    (let e : left % 2 * k + left / 2 * (k + k) ≡ (left % 2 + left / 2 * 2) * k = omega arith in e) ∙ ap (λ (n : ℕ). n * k) whole

pub IsOnWay-even : (f t left seed draws start : ℕ) → left % 2 ≡ 0 → IsOnWay f t left seed draws start
    → IsOnWay (f * f % 2 ^ 128) ((f + 1) % 2 ^ 128 * t % 2 ^ 128) (left / 2) seed draws start
IsOnWay-even f t left seed draws start even way =
    let k = way.stride in
    let sum : left / 2 * (k + k) ≡ left * k = omega (arith, ap (λ (bit : ℕ). bit * k) even, halved left k) in
    record {
      stride = k + k;
      makes = Makes-twice f t k way.makes;
      leads = ap (λ (n : ℕ). seed_after n seed) sum ∙ way.leads;
    }

pub IsOnWay-odd : (f t left seed draws start : ℕ) → left % 2 ≡ 1 → IsOnWay f t left seed draws start
    → IsOnWay (f * f % 2 ^ 128) ((f + 1) % 2 ^ 128 * t % 2 ^ 128) (left / 2) ((f * seed % 2 ^ 128 + t) % 2 ^ 128) draws start
IsOnWay-odd f t left seed draws start odd way =
    let k = way.stride in
    let sum : k + left / 2 * (k + k) ≡ left * k = omega (arith, ap (λ (bit : ℕ). bit * k) odd, halved left k) in
    record {
      stride = k + k;
      makes = Makes-twice f t k way.makes;
      leads =
          ap (seed_after (left / 2 * (k + k))) (Makes-wrapping f t k seed way.makes)
          ∙ sym (seed_after-add k (left / 2 * (k + k)) seed)
          ∙ ap (λ (n : ℕ). seed_after n seed) sum ∙ way.leads;
    }

pub IsOnWay-end : (f t left seed draws start : ℕ) → left ≡ 0 → seed < 2 ^ 128 → IsOnWay f t left seed draws start
    → seed ≡ seed_after draws start
IsOnWay-end f t left seed draws start none fits way =
    sym (mod-eq_of_lt fits) ∙ sym (seed_after-zero seed)
    ∙ ap (λ (n : ℕ). seed_after n seed) (sym (ap (λ (n : ℕ). n * way.stride) none ∙ zero-mul way.stride)) ∙ way.leads
