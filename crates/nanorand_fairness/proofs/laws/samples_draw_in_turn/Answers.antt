use Rattle.std.proofs.Common.{◌-◌, ◌*◌, [], arith}
use Rattle.nanorand_core.specs.values.Draws.{word_limit}
use Rattle.nanorand_fairness.proofs.lemmas.streams.Samples.{sample_in_turn}
use Rattle.nanorand_fairness.proofs.laws.samples_draw_in_turn.Goals as goal

pub returns : goal.returns
returns g c = λ size count start within fits. sample_in_turn g.G.Rng.requests size (count - size) (word_limit * size) start [] (omega arith) (omega arith)
