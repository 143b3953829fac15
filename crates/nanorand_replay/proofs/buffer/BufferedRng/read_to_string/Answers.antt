use Rattle.std.proofs.Common.{refl}
use Rattle.nanorand_replay.proofs.buffer.BufferedRng.read_to_string.Goals as goal

pub returns-clause-text_stays : goal.returns-clause-text_stays
returns-clause-text_stays g c = refl
