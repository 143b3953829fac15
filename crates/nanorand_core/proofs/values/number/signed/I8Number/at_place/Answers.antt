use Rattle.std.proofs.Common.{rules}
use Rattle.nanorand_core.proofs.values.number.signed.I8Number.at_place.Goals as goal

pub returns : goal.returns
returns c = search rules
