use Rattle.std.proofs.Common.{rules}
use Rattle.draw_core.proofs.text.push_answer.Goals as goal

pub returns-in-Truth : goal.returns-in-Truth
returns-in-Truth g c = search rules
