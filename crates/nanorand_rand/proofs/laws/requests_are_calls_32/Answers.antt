use Rattle.std.proofs.Common.{◌≡◌, ℕ, ◌%◌, ◌^◌, ap, ◌∙◌, arith}
use Rattle.rand_core.specs.Steps.{word_bytes}
use Rattle.nanorand_rand.proofs.lemmas.NumberLemmas.{low_32, two_words}
use Rattle.nanorand_rand.proofs.laws.requests_are_calls_32.Goals as goal

pub returns-clause-word : goal.returns-clause-word
unfolding word_bytes
returns-clause-word g c = λ state fits.
    let step = g.R.NextWord.step in
    let same : _ % 2 ^ 32 ≡ (step state).0 = omega (arith, fits) in
    ap (λ (word : ℕ). (word, (step state).1)) (low_32 (step state).0 ∙ same)

pub returns-clause-number : goal.returns-clause-number
unfolding word_bytes
returns-clause-number g c = λ state low high.
    let step = g.R.NextWord.step in
    ap (λ (number : ℕ). (number, (step (step state).1).1)) (two_words _ _ low high)
