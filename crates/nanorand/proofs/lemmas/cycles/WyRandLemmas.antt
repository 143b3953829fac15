-- The one cycle of the seeds of WyRand.
use Rattle.std.proofs.Common.{◌≡◌, ◌≢◌, ℕ, ◌+◌, ◌-◌, ◌*◌, ◌/◌, ◌%◌, ◌^◌, ◌<◌, refl, sym, ap, ◌∙◌, arith, lit<}
use Rattle.std.proofs.Math.Nat.{mod-add-mod, add-mod-mod, add-mul-mod_self_right, add-mod_right, mod-eq_of_lt, mod-eq-zero_of_dvd}
use Rattle.std.proofs.lemmas.Nat.{mul-mod_first}
use Rattle.std.specs.Int.{◌∣◌}
use Rattle.std.specs.Fn.{iterate}
use Rattle.nanorand_core.specs.generators.Cycles.{IsPeriod, PeriodsAreMultiplesOf, AgreeModulo}
use Rattle.nanorand.specs.generators.WyRand.{increment, next_seed, seed_after, wyrand_block}
use Rattle.nanorand.specs.support.WyRandDrawLemmas.{wyrand_steps, wyrand_closed}
use Rattle.nanorand.proofs.lemmas.cycles.PeriodLemmas.{periods_are_multiples}

-- the number of steps of size a from s to t, modulo m, where b is the inverse of a
abbrev pub steps_between : ℕ → ℕ → ℕ → ℕ → ℕ
steps_between m b s t = (t + (m - s)) % m * b % m

-- multiplying by a and its inverse b changes nothing modulo m
back : (m a b k x : ℕ) → a * b ≡ 1 + k * m → (x * (a * b)) % m ≡ x % m
back m a b k x inverse =
    let spread : x * (1 + k * m) ≡ x + x * k * m = omega arith in
    ap (λ (p : ℕ). (x * p) % m) inverse ∙ ap (λ (p : ℕ). p % m) spread ∙ add-mul-mod_self_right x (x * k) m

pub steps_between-steps : (m a b k s n : ℕ) → a * b ≡ 1 + k * m → s < m
    → steps_between m b s ((s + n * a) % m) ≡ n % m
steps_between-steps m a b k s n inverse s_fits =
    let gone : s + n * a + (m - s) ≡ n * a + m = omega arith in
    let turned : n * a * b ≡ n * (a * b) = omega arith in
    ap (λ (d : ℕ). d * b % m) (mod-add-mod (s + n * a) m (m - s) ∙ ap (λ (d : ℕ). d % m) gone ∙ add-mod_right (n * a) m)
    ∙ mul-mod_first (n * a) b m ∙ ap (λ (d : ℕ). d % m) turned ∙ back m a b k n inverse

pub steps-steps_between : (m a b k s t : ℕ) → a * b ≡ 1 + k * m → s < m → t < m
    → (s + steps_between m b s t * a) % m ≡ t
steps-steps_between m a b k s t inverse s_fits t_fits =
    let d = t + (m - s) in
    let turned : d % m * b * a ≡ d % m * (a * b) = omega arith in
    let gone : s + d ≡ t + m = omega arith in
    let moved : (d % m * b % m * a) % m ≡ d % m % m =
    mul-mod_first (d % m * b) a m ∙ ap (λ (e : ℕ). e % m) turned ∙ back m a b k (d % m) inverse in
    sym (add-mod-mod s (d % m * b % m * a) m) ∙ ap (λ (e : ℕ). (s + e) % m) moved
    ∙ add-mod-mod s (d % m) m ∙ add-mod-mod s d m
    ∙ ap (λ (e : ℕ). e % m) gone ∙ add-mod_right t m ∙ mod-eq_of_lt t_fits

-- the inverse of the increment modulo 2 ^ 64, and the quotient of their product by 2 ^ 64
abbrev pub inverse : ℕ
inverse = 0x939c72e4af1e62cf

abbrev turns : ℕ
turns = increment * inverse / 2 ^ 64

-- the number of draws from s to t
abbrev pub draws_between : ℕ → ℕ → ℕ
draws_between s t = steps_between (2 ^ 64) inverse s t

pub draws_between-seed_after : (s n : ℕ) → s < 2 ^ 64 → draws_between s (seed_after n s) ≡ n % 2 ^ 64
draws_between-seed_after s n fits = steps_between-steps (2 ^ 64) increment inverse turns s n refl fits

pub seed_after-draws_between : (s t : ℕ) → s < 2 ^ 64 → t < 2 ^ 64 → seed_after (draws_between s t) s ≡ t
seed_after-draws_between s t s_fits t_fits = steps-steps_between (2 ^ 64) increment inverse turns s t refl s_fits t_fits

-- i draws and j draws lead from a seed to the same seed if and only if i and j agree modulo 2 ^ 64
pub seed_after-agree : (s : ℕ) → s < 2 ^ 64 → AgreeModulo (2 ^ 64) seed_after s
seed_after-agree s fits i j = (
  λ same. sym (draws_between-seed_after s i fits) ∙ ap (draws_between s) same ∙ draws_between-seed_after s j fits,
  λ same. reduced i ∙ ap (λ (n : ℕ). seed_after n s) same ∙ sym (reduced j),
)
  where
    reduced : (n : ℕ) → seed_after n s ≡ seed_after (n % 2 ^ 64) s
    reduced n = omega arith

-- from a seed below 2 ^ 64, draws made one by one lead to the closed form
steps_closed : (n s : ℕ) → s < 2 ^ 64 → iterate next_seed n s ≡ seed_after n s
steps_closed n s fits = wyrand_steps n s ∙ wyrand_closed n s fits

-- the seed whose next seed is 0, and the seed 2 ^ 63 after it
abbrev before_zero : ℕ
before_zero = 2 ^ 64 - increment

abbrev before_half : ℕ
before_half = (before_zero + 2 ^ 63) % 2 ^ 64

blocks_apart : wyrand_block before_half ≢ wyrand_block before_zero
blocks_apart same = (cc)

-- a number of draws that is 2 ^ 63 modulo 2 ^ 64 is not a period
half_no_period : (s : ℕ) → s < 2 ^ 64 → (d : ℕ) → d % 2 ^ 64 ≡ 2 ^ 63 → ¬ (IsPeriod next_seed wyrand_block s d)
half_no_period s fits d half period =
    let there = draws_between s before_zero in
    let arrives : seed_after there s ≡ before_zero = seed_after-draws_between s before_zero fits (lit< tt) in
    let shifted : seed_after there (seed_after d s) ≡ before_half =
    either_order there d s ∙ ap (λ (t : ℕ). (t + d * increment) % 2 ^ 64) arrives ∙ omega arith in
    blocks_apart (sym (ap wyrand_block (ap (iterate next_seed there) (steps_closed d s fits) ∙ steps_closed there (seed_after d s) (omega arith) ∙ shifted))
    ∙ period there ∙ ap wyrand_block (steps_closed there s fits ∙ arrives))
  where
    either_order : (m n s : ℕ) → seed_after m (seed_after n s) ≡ (seed_after m s + n * increment) % 2 ^ 64
    either_order m n s = omega arith

whole_period : (s : ℕ) → s < 2 ^ 64 → (d : ℕ) → 2 ^ 64 ∣ d → IsPeriod next_seed wyrand_block s d
whole_period s fits d divides n =
    let whole : d % 2 ^ 64 ≡ 0 = mod-eq-zero_of_dvd (2 ^ 64) divides in
    ap (λ (t : ℕ). wyrand_block (iterate next_seed n t)) (steps_closed d s fits ∙ omega arith)

pub wyrand_periods : (s : ℕ) → s < 2 ^ 64 → PeriodsAreMultiplesOf (2 ^ 64) next_seed wyrand_block s
wyrand_periods s fits = periods_are_multiples next_seed wyrand_block s 63 (whole_period s fits) (half_no_period s fits)
