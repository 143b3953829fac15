use Rattle.std.proofs.lemmas.Grind.{common_steps}
use Rattle.std.proofs.Common.{arith, rules}
use Rattle.nanorand_core.proofs.choices.weighted.item_at.Goals as goal

pub returns-then-left-weight-clause-item : goal.returns-then-left-weight-clause-item
returns-then-left-weight-clause-item c = grind (arith, common_steps)

pub returns-then-left-weight-clause-share : goal.returns-then-left-weight-clause-share
returns-then-left-weight-clause-share c = search rules
