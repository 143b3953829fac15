use Rattle.nanorand.specs.support.WyRandDrawLemmas.{wyrand_steps, wyrand_more, wyrand_adds, wyrand_closed, wyrand_seeds, wyrand_fits, wyrand_words}
use Rattle.nanorand.proofs.lemmas.cycles.WyRandLemmas.{seed_after-agree, wyrand_periods}
use Rattle.nanorand.proofs.laws.wyrand_cycle.Goals as goal

pub returns : goal.returns
returns c = record {
  steps = wyrand_steps;
  more = wyrand_more;
  adds = wyrand_adds;
  closed = wyrand_closed;
  seeds = wyrand_seeds;
  fits = wyrand_fits;
  words = wyrand_words;
  agree = seed_after-agree;
  periods = wyrand_periods;
}
