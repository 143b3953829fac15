use Rattle.std.proofs.Common.{refl}
use Rattle.nanorand.specs.support.ChaChaInverse.{unquarter_round}
use Rattle.nanorand.proofs.crypto.chacha.inverse.unquarter_round.Goals as goal

pub returns : goal.returns
unfolding unquarter_round
returns c =
    rw (c.rotate_right-4.ensures, c.rotate_right-3.ensures, c.rotate_right-2.ensures, c.rotate_right.ensures) refl
