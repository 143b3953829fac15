use Rattle.std.specs.Int.{w32, to_le_bytes}
use Rattle.std.proofs.Common.{◌≡◌, ℕ, take, refl, ap, ◌∙◌, arith}
use Rattle.std.proofs.lemmas.List.{take-take}
use Rattle.rand_core.specs.Pcg32Seed.{pcg32_seed, pcg32_step}
use Rattle.nanorand_rand.specs.support.WordLemmas.{length-word_bytes, front-more}
use Rattle.nanorand_rand.proofs.seeds.ChaChaSeedSeed.from_u64.Goals as goal

-- A seed of 40 bytes is the beginning of one of 64 bytes.
shorter : (state : ℕ) → take 40 (pcg32_seed 64 state) ≡ pcg32_seed 40 state
unfolding pcg32_seed
shorter state =
    let size = length-word_bytes (to_le_bytes w32) pcg32_step 4 (λ w. refl) 10 state in
    take-take 40 64 _ (omega arith) ∙ front-more (to_le_bytes w32) pcg32_step 10 6 40 state (omega (arith, size))

pub returns-clause-value : goal.returns-clause-value
returns-clause-value c = c.first_40.ensures ∙ ap (take 40) c.from_u64.ensures.value ∙ shorter c.args.state
