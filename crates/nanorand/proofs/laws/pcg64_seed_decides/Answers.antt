use Rattle.nanorand.proofs.lemmas.generators.SeedDecidesLemmas.{deliver_by_seed, all_by_seed, seeds_left}
use Rattle.nanorand.proofs.laws.pcg64_seed_decides.Goals as goal

pub returns : goal.returns
returns c = record { each = deliver_by_seed; all = all_by_seed; seeds = seeds_left }
