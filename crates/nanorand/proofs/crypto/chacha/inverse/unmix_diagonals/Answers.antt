use Rattle.std.proofs.Common.{◌≡◌, length, arith, ap, ◌∙◌}
use Rattle.nanorand.specs.generators.ChaChaRounds.{quarter_round, on_diagonals}
use Rattle.nanorand.specs.support.ChaChaInverse.{unquarter_round}
use Rattle.nanorand.proofs.lemmas.chacha.MatrixLemmas.{with_diagonals}
use Rattle.nanorand.proofs.lemmas.chacha.InverseLemmas.{diagonals-back}
use Rattle.nanorand.proofs.crypto.chacha.inverse.unmix_diagonals.Goals as goal

pub returns : goal.returns
returns c =
    let long : length c.args.x.now ≡ 16 = omega arith in
    let written : c.unmix_line-4.new.x ≡ on_diagonals unquarter_round c.args.x.now =
    rw (c.unmix_line-4.ensures, c.unmix_line-3.ensures, c.unmix_line-2.ensures, c.unmix_line.ensures)
    (with_diagonals unquarter_round c.args.x.now long) in
    ap (on_diagonals quarter_round) written ∙ diagonals-back c.args.x.now (record { sixteen = long; words = c.fits-x })
