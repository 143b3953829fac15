use Rattle.std.proofs.Common.{◌≡◌, length, rules}
use Rattle.nanorand.proofs.lemmas.chacha.MatrixLemmas.{spelled}
use Rattle.nanorand.proofs.crypto.chacha.lanes.rows_of.Goals as goal

pub returns : goal.returns
returns c =
    let long : length c.args.x.now ≡ 16 = search rules in
    spelled c.args.x.now long
