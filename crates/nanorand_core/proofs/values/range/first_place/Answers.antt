use Rattle.std.proofs.Common.{rules}
use Rattle.nanorand_core.proofs.values.range.first_place.Goals as goal

pub returns-in-Excluded-clause-admits : goal.returns-in-Excluded-clause-admits
returns-in-Excluded-clause-admits g c = search rules
