use Rattle.std.proofs.Common.{ℕ, ap}
use Rattle.rand_core.specs.Steps.{word_bytes}
use Rattle.nanorand_rand.proofs.lemmas.NumberLemmas.{low_32, whole_64}
use Rattle.nanorand_rand.proofs.laws.requests_are_calls_64.Goals as goal

pub returns-clause-number : goal.returns-clause-number
unfolding word_bytes
returns-clause-number g c = λ state fits.
    let step = g.R.NextWord.step in
    ap (λ (number : ℕ). (number, (step state).1)) (whole_64 (step state).0 fits)

pub returns-clause-half : goal.returns-clause-half
unfolding word_bytes
returns-clause-half g c = λ state.
    let step = g.R.NextWord.step in
    ap (λ (number : ℕ). (number, (step state).1)) (low_32 (step state).0)
