-- The seeds after draws of SplitMix64 repeat after its period, and not before.
use Rattle.std.proofs.Common.{◌≡◌, ℕ, zero, suc, ◌+◌, ◌*◌, ◌%◌, ◌^◌, ◌<◌, ◌∙◌, sym, arith}
use Rattle.nanorand.specs.generators.Parts.{ComesAgain, NothingTwice, after_draws}
use Rattle.nanorand_users.specs.SplitMix.{increment, next_seed, split_mix_period, split_mix_requests}

-- The seed after n draws.
pub seed_after : (n s : ℕ) → s < 2 ^ 64 → after_draws split_mix_requests n s ≡ (s + n * increment) % 2 ^ 64
unfolding after_draws
seed_after zero s fits = let none : s ≡ (s + 0 * increment) % 2 ^ 64 = omega arith in none
seed_after (suc n) s fits =
    let more : (next_seed s + n * increment) % 2 ^ 64 ≡ (s + suc n * increment) % 2 ^ 64 = omega arith in
    seed_after n (next_seed s) (omega arith) ∙ more

pub once : (s : ℕ) → s < 2 ^ 64 → NothingTwice split_mix_period (λ n. after_draws split_mix_requests n s)
once s fits m n low high same =
    let sums : (s + m * increment) % 2 ^ 64 ≡ (s + n * increment) % 2 ^ 64 =
    sym (seed_after m s fits) ∙ same ∙ seed_after n s fits in
    omega (arith, sums)

pub again : (s : ℕ) → s < 2 ^ 64 → ComesAgain split_mix_period (λ n. after_draws split_mix_requests n s)
again s fits = (
  0,
  omega arith,
  λ n _.
      let whole : (s + (n + split_mix_period) * increment) % 2 ^ 64 ≡ (s + n * increment) % 2 ^ 64 = omega arith in
      seed_after (n + split_mix_period) s fits ∙ whole ∙ sym (seed_after n s fits),
)
