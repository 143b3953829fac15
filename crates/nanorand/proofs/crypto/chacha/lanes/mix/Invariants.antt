use Rattle.std.proofs.Common.{◌≡◌}
use Rattle.std.specs.Fn.{iterate}
use Rattle.nanorand.specs.generators.ChaChaRounds.{pair_of_rounds}
use Rattle.nanorand.specs.support.ChaChaRows.{matrix}
use Rattle.nanorand.proofs.crypto.chacha.lanes.mix.Given as goal

abbrev pub invariant-pairs : goal.invariant-pairs
invariant-pairs g l = matrix l.mixed ≡ iterate pair_of_rounds l._pair (matrix l.fn.rows)
