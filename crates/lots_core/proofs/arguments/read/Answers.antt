use Rattle.std.proofs.lemmas.Grind.{common_steps}
use Rattle.std.proofs.Common.{arith}
use Rattle.lots_core.proofs.arguments.read.Goals as goal

pub returns-clause-found : goal.returns-clause-found
returns-clause-found c = grind (arith, common_steps)

pub returns-clause-only : goal.returns-clause-only
returns-clause-only c = grind (arith, common_steps)
