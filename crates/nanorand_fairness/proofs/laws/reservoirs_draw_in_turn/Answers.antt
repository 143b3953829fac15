use Rattle.std.proofs.Common.{◌≡◌, ◌-◌, ◌*◌, min, arith}
use Rattle.std.specs.List.{range_with_len}
use Rattle.nanorand_core.specs.values.Draws.{word_limit}
use Rattle.nanorand_fairness.proofs.lemmas.streams.Reservoirs.{reservoir_in_turn}
use Rattle.nanorand_fairness.proofs.laws.reservoirs_draw_in_turn.Goals as goal

pub returns : goal.returns
returns g c = λ size count start within fits.
    let low : min size count ≡ size = omega arith in
    rw low (reservoir_in_turn g.G.Rng.requests (count - size) size (word_limit * (count - size)) start (range_with_len 0 size) (omega arith) (omega arith))
