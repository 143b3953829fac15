use Rattle.std.proofs.Common.{◌≡◌, length, arith, ap, ◌∙◌}
use Rattle.nanorand.specs.generators.ChaChaRounds.{quarter_round, on_columns}
use Rattle.nanorand.specs.support.ChaChaInverse.{unquarter_round}
use Rattle.nanorand.proofs.lemmas.chacha.MatrixLemmas.{with_columns}
use Rattle.nanorand.proofs.lemmas.chacha.InverseLemmas.{columns-back}
use Rattle.nanorand.proofs.crypto.chacha.inverse.unmix_columns.Goals as goal

pub returns : goal.returns
returns c =
    let long : length c.args.x.now ≡ 16 = omega arith in
    let written : c.unmix_line-4.new.x ≡ on_columns unquarter_round c.args.x.now =
    rw (c.unmix_line-4.ensures, c.unmix_line-3.ensures, c.unmix_line-2.ensures, c.unmix_line.ensures)
    (with_columns unquarter_round c.args.x.now long) in
    ap (on_columns quarter_round) written ∙ columns-back c.args.x.now (record { sixteen = long; words = c.fits-x })
