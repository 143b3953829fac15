use Rattle.std.proofs.Common.{rules}
use Rattle.nanorand.proofs.rand.chacha.ChaChaBlocks64.rand.Goals as goal

pub returns-clause-state : goal.returns-clause-state
returns-clause-state g c = search rules
