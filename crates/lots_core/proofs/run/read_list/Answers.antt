use Rattle.std.proofs.Common.{inr, refl}
use Rattle.lots_core.proofs.run.read_list.Goals as goal

pub returns-clause-refusal : goal.returns-clause-refusal
returns-clause-refusal g c = inr refl
