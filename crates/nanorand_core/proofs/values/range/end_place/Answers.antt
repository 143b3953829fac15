use Rattle.std.proofs.Common.{rules}
use Rattle.nanorand_core.proofs.values.range.end_place.Goals as goal

pub returns-in-Included-clause-admits : goal.returns-in-Included-clause-admits
returns-in-Included-clause-admits g c = search rules

pub returns-in-Unbounded-clause-admits : goal.returns-in-Unbounded-clause-admits
returns-in-Unbounded-clause-admits g c = search rules
