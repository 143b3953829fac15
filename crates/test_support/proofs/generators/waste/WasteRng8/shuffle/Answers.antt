use Rattle.std.proofs.Common.{length}
use Rattle.test_support.proofs.lemmas.WasteLemmas.{choices, state}
use Rattle.test_support.proofs.generators.waste.WasteRng8.shuffle.Goals as goal

pub returns : goal.returns
returns g c =
    let n = length c.args.target.now in
    rw (choices n 0 n c.args.self.now, state n 0 _ c.args.self.now, ← c.self.view_is) c.shuffle.ensures
