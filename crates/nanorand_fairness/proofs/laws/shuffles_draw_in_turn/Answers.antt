use Rattle.std.proofs.Common.{◌*◌, length, min, arith}
use Rattle.nanorand_core.specs.values.Draws.{word_limit}
use Rattle.nanorand_fairness.proofs.lemmas.streams.Shuffles.{choices_in_turn}
use Rattle.nanorand_fairness.proofs.laws.shuffles_draw_in_turn.Goals as goal

pub returns : goal.returns
returns g c = λ steps start items fits.
    choices_in_turn g.G.Rng.requests (length items) (omega arith) (min steps (length items)) 0
    (word_limit * min steps (length items)) start (omega arith) (omega arith)
