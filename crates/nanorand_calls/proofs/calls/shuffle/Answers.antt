use Rattle.std.proofs.Common.{ap, ◌∙◌}
use Rattle.nanorand_calls.specs.Status.{status}
use Rattle.nanorand_calls.proofs.calls.shuffle.Goals as goal

pub returns-clause-status : goal.returns-clause-status
returns-clause-status g c = c.status.ensures ∙ ap status c.shuffle-outcome.ensures.answer

pub returns-clause-items : goal.returns-clause-items
returns-clause-items g c = c.shuffle-outcome.ensures.items

pub returns-clause-state : goal.returns-clause-state
returns-clause-state g c = c.shuffle-outcome.ensures.state
