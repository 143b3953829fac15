use Rattle.std.proofs.Common.{◌≡◌, ℕ, ◌<◌}
use Rattle.std.specs.Fn.{iterate}
use Rattle.nanorand.specs.generators.ChaChaRounds.{pair_of_rounds}
use Rattle.nanorand.specs.support.ChaChaRows.{matrix_of}
use Rattle.nanorand.proofs.crypto.chacha.side_by_side.mix.Given as goal

abbrev pub invariant-pairs : goal.invariant-pairs
invariant-pairs g l =
    let word = g.V.Vector.lane in
    (j : ℕ) → j < g.V.Vector.width → matrix_of (word j) l.mixed ≡ iterate pair_of_rounds l._pair (matrix_of (word j) l.fn.x)
