-- The proof that n! does not divide n^n, and the sizes of draws from all indices.
use Rattle.std.proofs.Common.{◌≡◌, ◌≢◌, ℕ, zero, suc, ◌+◌, ◌*◌, ◌%◌, ◌^◌, ◌<◌, ◌≤◌, replicate, sym, ◌∙◌, ap, arith}
use Rattle.std.proofs.Math.Nat.{pow-zero, pow-suc, mul-mod_left}
use Rattle.std.proofs.lemmas.Nat.{mod-mul-add}
use Rattle.std.proofs.lemmas.List.{length-replicate, get_or-replicate}
use Rattle.nanorand_core.specs.samples.Samples.{factorial}
use Rattle.nanorand_fairness.specs.InTurn.{AreSizes}

-- a power of p + 1 is one more than a multiple of p
power-of-next : (p k : ℕ) → (q : ℕ) × (suc p ^ k ≡ q * p + 1)
power-of-next p zero = (0, pow-zero (suc p) ∙ omega arith)
power-of-next p (suc k) =
    let rest = power-of-next p k in
    let more = ap (λ (u : ℕ). u * suc p) rest.1 in
    (suc p * rest.0 + 1, pow-suc (suc p) k ∙ more ∙ omega arith)

-- n - 1 divides n!, but not n^n
pub no-multiple : (n m : ℕ) → 3 ≤ n → n ^ n ≢ m * factorial n
no-multiple zero m many same = absurd (omega arith)
no-multiple (suc zero) m many same = absurd (omega arith)
no-multiple (suc (suc k)) m many same =
    let p = suc k in
    let power = power-of-next p (suc p) in
    let one = mod-mul-add power.0 p 1 (omega arith) in
    let none = mul-mod_left (m * (suc p * factorial k)) p in
    let equal : power.0 * p + 1 ≡ m * (suc p * factorial k) * p = sym power.1 ∙ same ∙ omega arith in
    let both = ap (λ (u : ℕ). u % p) equal in
    absurd (omega (arith, one, none, both))

pub full-sizes : (n bits : ℕ) → n ≤ 2 ^ bits → AreSizes bits (replicate n n)
full-sizes n bits fits = λ i d low.
    let early : i < n = omega (arith, length-replicate n n) in
    let at = get_or-replicate n i n d early in
    (omega (arith, at), omega (arith, at))
