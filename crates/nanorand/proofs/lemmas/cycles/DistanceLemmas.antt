-- The distance between two seeds of Pcg64, bit by bit from the lowest.
use Rattle.std.proofs.Common.{◌≡◌, ◌≢◌, ℕ, zero, suc, ◌+◌, ◌-◌, ◌*◌, ◌/◌, ◌%◌, ◌^◌, ◌<◌, ◌≤◌, ◌↔◌, inl, inr, sym, ap, ◌∙◌, arith, lit<, subst}
use Rattle.std.proofs.Math.Nat.{mod-add-mod, add-mod_right, mul-div_cancel_left, mod-mod_of_dvd, dvd-mul_right}
use Rattle.std.proofs.Math.Nat.{pow-succ', two-pow-succ, mod-eq_of_lt, mul-mod_left}
use Rattle.std.proofs.Math.Numerals.{add-one}
use Rattle.std.proofs.Math.Pow.{pow-add, pow_pos}
use Rattle.nanorand.specs.generators.Pcg64.{factor, term, seed_after, SameCycle}
use Rattle.nanorand.specs.support.Pcg64DrawLemmas.{seed_after-zero, seed_after-add}
use Rattle.nanorand.proofs.lemmas.cycles.ModulusLemmas.{mul-mod-mul}
use Rattle.nanorand.proofs.lemmas.cycles.DoublingLemmas.{walk, moves_far, walk_mod_8}
use Rattle.nanorand.proofs.lemmas.cycles.Pcg64Lemmas.{u, v, seed_after-agree}
use Rattle.nanorand.proofs.lemmas.cycles.ReachLemmas.{reached}
use Rattle.nanorand.proofs.lemmas.cycles.JumpLemmas.{Makes, Makes-one, Makes-twice, Makes-wrapping}

-- the difference, modulo m, between a number and the one d before it is d
difference : (m s d : ℕ) → s < m → ((s + d) % m + (m - s)) % m ≡ d % m
difference m s d fits =
    let gone : s + d + (m - s) ≡ d + m = omega arith in
    mod-add-mod (s + d) m (m - s) ∙ ap (λ (n : ℕ). n % m) gone ∙ add-mod_right d m

-- the deciding bit, if p * w is 2 ^ 124 and d strides were made
deciding_bit : (p w d : ℕ) → 0 < p → 0 < w → (8 * p * d) % (8 * p * (2 * w)) / (2 * p) % 8 ≡ 4 * (d % 2)
deciding_bit p w d p_pos w_pos =
    let rest = d % (2 * w) in
    let eight_pos : 0 < 8 * p = omega arith in
    let two_pos : 0 < 2 * p = omega arith in
    let turned : 8 * p * rest ≡ 2 * p * (4 * rest) = omega arith in
    let low : rest % 2 ≡ d % 2 = mod-mod_of_dvd 2 d (dvd-mul_right 2 w) in
    ap (λ (n : ℕ). n / (2 * p) % 8) (mul-mod-mul (8 * p) d (2 * w) eight_pos (omega arith) ∙ turned)
    ∙ ap (λ (n : ℕ). n % 8) (mul-div_cancel_left (4 * rest) two_pos)
    ∙ mul-mod-mul 4 rest 2 (lit< tt) (lit< tt) ∙ ap (λ (b : ℕ). 4 * b) low

-- the test of a bit: if k strides of 2 ^ bit draws are left to the end, the tested value is 0 if
-- and only if k is even
pub deciding : (bit k seed end : ℕ) → bit < 126 → seed < 2 ^ 128 → seed_after (k * 2 ^ bit) seed ≡ end
    → ((end + (2 ^ 128 - seed)) % 2 ^ 128 / 2 ^ bit % 8 ≡ 0) ↔ (k % 2 ≡ 0)
deciding zero k seed end in_range fits leads =
    let there : end ≡ walk u v k seed % 2 ^ 128 = sym leads ∙ ap (λ (n : ℕ). seed_after n seed) (omega arith) in
    elim (walk_mod_8 u v k seed) [
      | inl even ↦ (λ _. even.0, λ _. omega (arith, even, there))
      | inr odd ↦ (λ none. absurd (omega (arith, odd, there, none)), λ even. absurd (omega (arith, odd.0, even)))
    ]
deciding (suc i) k seed end in_range fits leads =
    let m = 2 ^ 128 in
    let p = 2 ^ i in
    let w = 2 ^ (124 - i) in
    let far = moves_far u v i k seed in
    let d = k + 2 * far.0 in
    let moved : seed + k * (8 * p) + 16 * p * far.0 ≡ seed + 8 * p * d = omega arith in
    let there : end ≡ (seed + 8 * p * d) % m =
    sym leads ∙ ap (λ (n : ℕ). n % m) (far.1 ∙ moved) in
    let bit : (end + (m - seed)) % m / 2 ^ suc i % 8 ≡ 4 * (d % 2) =
    ap (λ (e : ℕ). (e + (m - seed)) % m / 2 ^ suc i % 8) there
    ∙ ap (λ (n : ℕ). n / 2 ^ suc i % 8) (difference m seed (8 * p * d) fits ∙ ap (λ (n : ℕ). (8 * p * d) % n) (sym (width i (omega arith))))
    ∙ ap (λ (n : ℕ). (8 * p * d) % (8 * p * (2 * w)) / n % 8) (pow-succ' 2 i)
    ∙ deciding_bit p w d (pow_pos i) (pow_pos (124 - i)) in
    (λ none. omega (arith, bit, none), λ even. omega (arith, bit, even))
  where
    width : (i : ℕ) → i ≤ 124 → 8 * 2 ^ i * (2 * 2 ^ (124 - i)) ≡ 2 ^ 128
    width i in_range =
        let whole : i + (124 - i) ≡ 124 = omega arith in
        let product : 2 ^ i * 2 ^ (124 - i) ≡ 2 ^ 124 = sym (pow-add 2 i (124 - i)) ∙ ap (λ (n : ℕ). 2 ^ n) whole in
        omega (arith, product)

-- what is known once `bit` bits of the distance are decided
pub record IsDecided (f t bit draws seed start end : ℕ) : Type 0 where
  pub makes : Makes f t (2 ^ bit)
  pub below : draws < 2 ^ bit
  pub came : seed_after draws start ≡ seed
  pub rest : (k : ℕ) × (seed_after (k * 2 ^ bit) seed ≡ end)

pub IsDecided-start : (start end : ℕ) → start < 2 ^ 128 → end < 2 ^ 128 → SameCycle start end → IsDecided factor term 0 0 start start end
IsDecided-start start end start_fits end_fits class =
    let found = reached start end end_fits class in
    record {
      makes = Makes-one;
      below = lit< tt;
      came = seed_after-zero start ∙ mod-eq_of_lt start_fits;
      rest = (found.0, ap (λ (n : ℕ). seed_after n start) (omega arith) ∙ found.1);
    }

-- the map of twice 2 ^ bit draws
doubled_stride : (f t bit : ℕ) → Makes f t (2 ^ bit) → Makes (f * f % 2 ^ 128) ((f + 1) % 2 ^ 128 * t % 2 ^ 128) (2 ^ (bit + 1))
doubled_stride f t bit makes =
    let P : ℕ → Type 0 = λ n. Makes (f * f % 2 ^ 128) ((f + 1) % 2 ^ 128 * t % 2 ^ 128) n in
    subst P (sym (two-pow-succ bit) ∙ ap (λ (n : ℕ). 2 ^ n) (sym (add-one bit))) (Makes-twice f t (2 ^ bit) makes)

-- a number of strides, split into its last bit and its half
halved : (last k bit : ℕ) → k % 2 ≡ last → last * 2 ^ bit + k / 2 * 2 ^ (bit + 1) ≡ k * 2 ^ bit
halved last k bit is =
    let whole : k ≡ 2 * (k / 2) + last = omega (arith, is) in
    ap (λ (n : ℕ). last * 2 ^ bit + k / 2 * n) (ap (λ (n : ℕ). 2 ^ n) (add-one bit) ∙ pow-succ' 2 bit)
    ∙ (let e : last * 2 ^ bit + k / 2 * (2 * 2 ^ bit) ≡ (2 * (k / 2) + last) * 2 ^ bit = omega arith in e) ∙ ap (λ (n : ℕ). n * 2 ^ bit) (sym whole)

-- the step for a bit that is not set
pub IsDecided-unset : (f t bit draws seed start end : ℕ) → bit < 126 → seed < 2 ^ 128
    → (end + (2 ^ 128 - seed)) % 2 ^ 128 / 2 ^ bit % 8 ≡ 0 → IsDecided f t bit draws seed start end
    → IsDecided (f * f % 2 ^ 128) ((f + 1) % 2 ^ 128 * t % 2 ^ 128) (bit + 1) draws seed start end
IsDecided-unset f t bit draws seed start end in_range fits none known =
    let k = known.rest.0 in
    let even = (deciding bit k seed end in_range fits known.rest.1).0 none in
    record {
      makes = doubled_stride f t bit known.makes;
      below = omega (arith, known.below, two-pow-succ bit, ap (λ (n : ℕ). 2 ^ n) (add-one bit));
      came = known.came;
      rest = (k / 2, ap (λ (n : ℕ). seed_after n seed) (omega (arith, halved 0 k bit even)) ∙ known.rest.1);
    }

-- the step for a bit that is set
pub IsDecided-set : (f t bit draws seed start end : ℕ) → bit < 126 → seed < 2 ^ 128
    → (end + (2 ^ 128 - seed)) % 2 ^ 128 / 2 ^ bit % 8 ≢ 0 → IsDecided f t bit draws seed start end
    → IsDecided (f * f % 2 ^ 128) ((f + 1) % 2 ^ 128 * t % 2 ^ 128) (bit + 1) (draws + 2 ^ bit) ((f * seed % 2 ^ 128 + t) % 2 ^ 128) start end
IsDecided-set f t bit draws seed start end in_range fits some known =
    let k = known.rest.0 in
    let not_even : ¬ (k % 2 ≡ 0) = λ even. some ((deciding bit k seed end in_range fits known.rest.1).1 even) in
    let odd : k % 2 ≡ 1 = omega (arith, not_even) in
    let stepped = Makes-wrapping f t (2 ^ bit) seed known.makes in
    record {
      makes = doubled_stride f t bit known.makes;
      below = omega (arith, known.below, two-pow-succ bit, ap (λ (n : ℕ). 2 ^ n) (add-one bit));
      came = seed_after-add draws (2 ^ bit) start ∙ ap (seed_after (2 ^ bit)) known.came ∙ sym stepped;
      rest = (
        k / 2,
        ap (seed_after (k / 2 * 2 ^ (bit + 1))) stepped ∙ sym (seed_after-add (2 ^ bit) (k / 2 * 2 ^ (bit + 1)) seed)
            ∙ ap (λ (n : ℕ). seed_after n seed) (omega (arith, halved 1 k bit odd)) ∙ known.rest.1,
      );
    }

-- after 126 bits the distance is decided
pub IsDecided-end : (f t draws seed start end : ℕ) → seed < 2 ^ 128 → IsDecided f t 126 draws seed start end → seed_after draws start ≡ end
IsDecided-end f t draws seed start end fits known =
    let k = known.rest.0 in
    known.came ∙ sym (mod-eq_of_lt fits) ∙ sym (seed_after-zero seed)
    ∙ (seed_after-agree seed 0 (k * 2 ^ 126)).1 (sym (mul-mod_left k (2 ^ 126))) ∙ known.rest.1
