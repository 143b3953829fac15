-- Lemmas about many draws of Pcg64. Not needed to understand the contracts: this file is in specs/
-- only because laws of impls cite its lemmas.
use Rattle.std.proofs.Common.{◌≡◌, ℕ, zero, suc, ◌+◌, ◌*◌, ◌%◌, ◌^◌, ◌<◌, refl, sym, ap, ◌∙◌, arith, add-one}
use Rattle.std.proofs.Math.Nat.{pow-zero, pow-suc, mod-eq_of_lt, add-zero, add-suc}
use Rattle.std.specs.Fn.{iterate}
use Rattle.std.specs.Int.{w64, to_le_bytes}
use Rattle.nanorand_core.specs.generators.Cycles.{DrawsLeave, OneMoreDraw, DrawsAdd}
use Rattle.nanorand_core.specs.support.IterateLemmas.{draws_leave, draws_add}
use Rattle.nanorand.specs.generators.Halves.{folded}
use Rattle.nanorand.specs.generators.Pcg64.{factor, term, next_seed, Generator, next, pcg64_block, geometric_sum, affine_after, seed_after, pcg64_after}

-- a geometric sum, extended at its other end
geometric_sum-more : (a n : ℕ) → geometric_sum a (suc n) ≡ a * geometric_sum a n + 1
unfolding geometric_sum
geometric_sum-more a zero = let first : 0 + a ^ 0 ≡ a * 0 + 1 = omega (arith, pow-zero a) in first
geometric_sum-more a (suc n) =
    let power : a ^ suc n ≡ a ^ n * a = pow-suc a n in
    let before = geometric_sum-more a n in
    let more : geometric_sum a (suc n) + a ^ suc n ≡ a * (geometric_sum a n + a ^ n) + 1 = omega arith in more

pub affine_after-zero : (a c s : ℕ) → affine_after a c 0 s ≡ s
unfolding affine_after geometric_sum
affine_after-zero a c s = let none : a ^ 0 * s + c * 0 ≡ s = rw pow-zero (omega arith) in none

pub affine_after-suc : (a c n s : ℕ) → affine_after a c (suc n) s ≡ a * affine_after a c n s + c
unfolding affine_after
affine_after-suc a c n s =
    let more : a ^ n * a * s + c * (a * geometric_sum a n + 1) ≡ a * (a ^ n * s + c * geometric_sum a n) + c = omega arith in
    ap (λ (p : ℕ). p * s + c * geometric_sum a (suc n)) (pow-suc a n)
    ∙ ap (λ (sum : ℕ). a ^ n * a * s + c * sum) (geometric_sum-more a n) ∙ more

pub affine_after-add : (a c m n s : ℕ) → affine_after a c (m + n) s ≡ affine_after a c n (affine_after a c m s)
affine_after-add a c m zero s = ap (λ (k : ℕ). affine_after a c k s) (add-zero m) ∙ sym (affine_after-zero a c (affine_after a c m s))
affine_after-add a c m (suc n) s =
    ap (λ (k : ℕ). affine_after a c k s) (add-suc m n) ∙ affine_after-suc a c (m + n) s
    ∙ ap (λ (t : ℕ). a * t + c) (affine_after-add a c m n s) ∙ sym (affine_after-suc a c n (affine_after a c m s))

pub seed_after-zero : (s : ℕ) → seed_after 0 s ≡ s % 2 ^ 128
seed_after-zero s = ap (λ (t : ℕ). t % 2 ^ 128) (affine_after-zero factor term s)

pub seed_after-suc : (n s : ℕ) → seed_after (suc n) s ≡ next_seed (seed_after n s)
seed_after-suc n s = omega (arith, affine_after-suc factor term n s)

-- n draws after m draws are m + n draws
pub seed_after-add : (m n s : ℕ) → seed_after (m + n) s ≡ seed_after n (seed_after m s)
seed_after-add m zero s = ap (λ (k : ℕ). seed_after k s) (add-zero m) ∙ omega (arith, seed_after-zero (seed_after m s))
seed_after-add m (suc n) s =
    ap (λ (k : ℕ). seed_after k s) (add-suc m n) ∙ seed_after-suc (m + n) s ∙ ap next_seed (seed_after-add m n s) ∙ sym (seed_after-suc n (seed_after m s))

pub seed_after-one : (s : ℕ) → seed_after 1 s ≡ next_seed s
seed_after-one s = omega (arith, seed_after-suc 0 s, seed_after-zero s)

pub pcg64_none : (g : Generator) → pcg64_after 0 g ≡ g
pcg64_none g = refl

-- the generator right after the draw from `before` to `seed`
drawn : ℕ → ℕ → Generator
drawn seed before = record { seed = seed; state = seed; inc = (2 * before + 1) % 2 ^ 128 }

pub pcg64_more : OneMoreDraw next pcg64_after
unfolding drawn
pcg64_more zero g =
    let before : (2 * seed_after 0 g.seed + 1) % 2 ^ 128 ≡ (2 * g.seed + 1) % 2 ^ 128 = omega (arith, seed_after-zero g.seed) in
    ap (λ (s : ℕ). drawn s (seed_after 0 g.seed)) (seed_after-one g.seed)
    ∙ ap (λ (i : ℕ). record { seed = next_seed g.seed; state = next_seed g.seed; inc = i }) before
pcg64_more (suc n) g = ap (λ (k : ℕ). pcg64_after k g) (add-one (suc n)) ∙ ap (λ (s : ℕ). drawn s (seed_after (suc n) g.seed)) (seed_after-suc (suc n) g.seed)

pub pcg64_steps : DrawsLeave next pcg64_after
pcg64_steps = draws_leave next pcg64_after pcg64_none pcg64_more

pub pcg64_adds : DrawsAdd pcg64_after
pcg64_adds = draws_add next pcg64_after pcg64_none pcg64_more

pub pcg64_seeds : (n : ℕ) (g : Generator) → (pcg64_after (n + 1) g).seed ≡ seed_after (n + 1) g.seed
pcg64_seeds n g = ap (λ (k : ℕ). (pcg64_after k g).seed) (add-one n) ∙ ap (λ (k : ℕ). seed_after k g.seed) (sym (add-one n))

-- from a seed, the seed after n draws is the closed form
pub pcg64_closed : (n : ℕ) (g : Generator) → g.seed < 2 ^ 128 → (pcg64_after n g).seed ≡ seed_after n g.seed
pcg64_closed zero g fits = sym (mod-eq_of_lt fits) ∙ sym (seed_after-zero g.seed)
pcg64_closed (suc n) g fits = refl

pub pcg64_fits : (n : ℕ) (g : Generator) → g.seed < 2 ^ 128 → (pcg64_after n g).seed < 2 ^ 128
pcg64_fits zero g fits = fits
pcg64_fits (suc n) g fits = omega arith

-- block n is the word after n + 1 draws
pub pcg64_words : (n : ℕ) (g : Generator) → pcg64_block (iterate next n g) ≡ to_le_bytes w64 (folded (seed_after (n + 1) g.seed))
pcg64_words n g =
    ap pcg64_block (pcg64_steps n g)
    ∙ ap (λ (h : Generator). to_le_bytes w64 (folded h.seed)) (sym (pcg64_more n g))
    ∙ ap (λ (s : ℕ). to_le_bytes w64 (folded s)) (pcg64_seeds n g)

-- blocks depend on the seed alone
pub pcg64_blocks : (n : ℕ) (g h : Generator) → g.seed ≡ h.seed → pcg64_block (iterate next n g) ≡ pcg64_block (iterate next n h)
pcg64_blocks n g h same =
    pcg64_words n g ∙ ap (λ (s : ℕ). to_le_bytes w64 (folded (seed_after (n + 1) s))) same ∙ sym (pcg64_words n h)
