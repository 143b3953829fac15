use Rattle.nanorand_core.proofs.lemmas.FairReservoirLemmas.{items_are_fair, sets_are_fair}
use Rattle.nanorand_core.proofs.laws.reservoirs_are_fair.Goals as goal

pub returns-clause-items : goal.returns-clause-items
returns-clause-items c = items_are_fair

pub returns-clause-sets : goal.returns-clause-sets
returns-clause-sets c = sets_are_fair
