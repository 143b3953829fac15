use Rattle.std.proofs.Common.{◌≡◌, ◌/◌, arith, ap, ◌∙◌, add-one}
use Rattle.nanorand.specs.generators.ChaChaRounds.{quarter_round, on_diagonals, pair_of_rounds, rounds}
use Rattle.nanorand.proofs.crypto.chacha.inverse.unmix.Goals as goal

pub pairs-preserved : goal.pairs-preserved
pairs-preserved g c =
    let pair : pair_of_rounds c.unmix_columns.new.x ≡ c.pairs.x =
    ap (on_diagonals quarter_round) c.unmix_columns.ensures ∙ c.unmix_diagonals.ensures in
    rw (add-one, pair) c.pairs.invariant

pub returns : goal.returns
unfolding rounds
returns g c =
    let all : c.pairs._pair ≡ g.row.ROUNDS / 2 = omega arith in
    rw (← all) c.pairs.invariant
