use Rattle.std.proofs.Common.{rules}
use Rattle.draw_core.proofs.requests.span_of.Goals as goal

pub returns-in-U16-clause-found : goal.returns-in-U16-clause-found
returns-in-U16-clause-found c = search rules

pub returns-in-U16-clause-only : goal.returns-in-U16-clause-only
returns-in-U16-clause-only c = search rules
