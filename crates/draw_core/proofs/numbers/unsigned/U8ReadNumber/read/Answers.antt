use Rattle.std.proofs.Common.{rules}
use Rattle.draw_core.proofs.numbers.unsigned.U8ReadNumber.read.Goals as goal

pub returns-clause-found : goal.returns-clause-found
returns-clause-found c = search rules
