use Rattle.nanorand.specs.support.Pcg64DrawLemmas.{pcg64_steps, pcg64_more, pcg64_adds, pcg64_closed, pcg64_seeds, pcg64_fits, pcg64_words, pcg64_blocks}
use Rattle.nanorand.proofs.lemmas.cycles.Pcg64Lemmas.{seed_after-agree, word-half, pcg64_periods}
use Rattle.nanorand.proofs.laws.pcg64_cycles.Goals as goal

pub returns : goal.returns
returns c = record {
  steps = pcg64_steps;
  more = pcg64_more;
  adds = pcg64_adds;
  closed = pcg64_closed;
  seeds = pcg64_seeds;
  fits = pcg64_fits;
  words = pcg64_words;
  blocks = pcg64_blocks;
  agree = λ seed _. seed_after-agree seed;
  top_bit = λ n seed _. word-half n seed;
  periods = λ g _. pcg64_periods g;
}
