use Rattle.std.proofs.Common.{refl, arith}
use Rattle.nanorand_replay.specs.support.BufferedLemmas.{same_buffer}
use Rattle.nanorand_replay.proofs.buffer.BufferedRngSeedableRng.reseed.Goals as goal

pub invariant_of-self : goal.invariant_of-self
invariant_of-self g c = (omega arith, omega arith, c.self.told)

pub returns : goal.returns
returns g c = rw (← c.self.view_is) (same_buffer refl c.reseed.ensures)
