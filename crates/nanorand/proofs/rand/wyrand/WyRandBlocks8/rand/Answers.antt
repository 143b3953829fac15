use Rattle.std.proofs.Common.{rules, ap}
use Rattle.nanorand.specs.generators.WyRand.{next_seed}
use Rattle.nanorand.proofs.rand.wyrand.WyRandBlocks8.rand.Goals as goal

pub returns-clause-bytes : goal.returns-clause-bytes
returns-clause-bytes c = search rules

pub returns-clause-state : goal.returns-clause-state
returns-clause-state c = ap next_seed c.self.view_is
