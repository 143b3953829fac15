use Rattle.std.proofs.Common.{◌≡◌}
use Rattle.std.specs.Fn.{iterate}
use Rattle.nanorand.specs.generators.ChaChaRounds.{pair_of_rounds}
use Rattle.nanorand.proofs.crypto.chacha.inverse.unmix.Given as goal

abbrev pub invariant-pairs : goal.invariant-pairs
invariant-pairs g l = iterate pair_of_rounds l._pair l.x ≡ l.fn.output
