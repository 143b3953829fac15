use Rattle.std.proofs.Common.{rules}
use Rattle.lots_core.proofs.error.LotsError.status.Goals as goal

pub returns-in-TooFew : goal.returns-in-TooFew
returns-in-TooFew c = search rules

pub returns-in-EmptyLine : goal.returns-in-EmptyLine
returns-in-EmptyLine c = search rules
