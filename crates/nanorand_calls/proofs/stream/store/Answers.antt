use Rattle.std.proofs.lemmas.Grind.{common_steps}
use Rattle.std.proofs.Common.{arith, rules}
use Rattle.nanorand_calls.proofs.stream.store.Goals as goal

pub returns-clause-state : goal.returns-clause-state
returns-clause-state c = grind (arith, common_steps)

pub returns-clause-buffered : goal.returns-clause-buffered
returns-clause-buffered c = search rules
