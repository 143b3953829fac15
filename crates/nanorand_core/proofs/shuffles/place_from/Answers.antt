use Rattle.std.proofs.Common.{rules}
use Rattle.nanorand_core.proofs.shuffles.place_from.Goals as goal

pub returns-then-items-place : goal.returns-then-items-place
returns-then-items-place c = search rules
