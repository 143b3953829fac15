use Rattle.nanorand_replay.proofs.lemmas.ReplayLemmas.{joined}
use Rattle.nanorand_replay.proofs.laws.replays_join.Goals as goal

pub returns : goal.returns
returns g c = joined g.G.Rng.requests
