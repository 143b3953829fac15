use Rattle.std.proofs.Common.{◌≡◌, ◌/◌, arith, ap, ◌∙◌, rules}
use Rattle.nanorand.specs.generators.ChaChaRounds.{quarter_round, on_diagonals, rounds}
use Rattle.nanorand_core.specs.support.IterateLemmas.{iterate-more}
use Rattle.nanorand.proofs.crypto.chacha.side_by_side.mix.Goals as goal

pub pairs-preserved : goal.pairs-preserved
pairs-preserved g c j h =
    rw (iterate-more, ← c.pairs.invariant j h) (c.mix_diagonals-mixed.ensures j h ∙ ap (on_diagonals quarter_round) (c.mix_columns.ensures j h))

pub returns : goal.returns
unfolding rounds
returns g c j h =
    let all : c.pairs._pair ≡ g.row.ROUNDS / 2 = omega arith in
    rw (← all) (c.pairs.invariant j h)

pub pairs-init : goal.pairs-init
pairs-init g c = search rules
