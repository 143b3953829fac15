use Rattle.std.proofs.lemmas.Grind.{common_steps}
use Rattle.std.proofs.Common.{arith}
use Rattle.nanorand.proofs.crypto.chacha.block.chacha_rounds.Goals as goal

-- The number of rounds is given by the caller, and even.
pub mix-requires : goal.mix-requires
mix-requires g c = c.requires

pub returns : goal.returns
returns g c = grind (arith, common_steps)
