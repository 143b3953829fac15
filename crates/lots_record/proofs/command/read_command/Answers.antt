use Rattle.std.proofs.Common.{arith}
use Rattle.std.proofs.lemmas.Grind.{common_steps}
use Rattle.lots_record.proofs.command.read_command.Goals as goal

pub returns-in-text-3-clause-draws : goal.returns-in-text-3-clause-draws
returns-in-text-3-clause-draws c = λ asked asks.
    let there = c.read.ensures.only asked asks in
    grind (arith, common_steps, there)
