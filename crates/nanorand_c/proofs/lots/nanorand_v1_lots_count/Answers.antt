use Rattle.std.proofs.Common.{Err, ap, ◌∙◌}
use Rattle.nanorand_c.proofs.lots.nanorand_v1_lots_count.Goals as goal

-- The number written is the one in the error.
pub returns-in-Err-EmptyLine-clause-empty : goal.returns-in-Err-EmptyLine-clause-empty
returns-in-Err-EmptyLine-clause-empty c four =
    let refused = c.in-Err-EmptyLine in
    c.count_entrants.ensures.empty refused.line (refused.is ∙ ap Err refused.field-0-is)

pub returns-in-Ok-clause-number : goal.returns-in-Ok-clause-number
returns-in-Ok-clause-number c done = c.in-Ok.ensures.number
