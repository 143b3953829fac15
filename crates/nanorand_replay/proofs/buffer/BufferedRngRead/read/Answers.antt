use Rattle.std.proofs.Common.{Ok, ap}
use Rattle.nanorand_replay.proofs.buffer.BufferedRngRead.read.Goals as goal

pub returns-clause-value : goal.returns-clause-value
returns-clause-value g c = ap Ok c.deliver.auto.out
