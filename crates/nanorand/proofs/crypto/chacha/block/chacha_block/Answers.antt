use Rattle.std.proofs.Common.{[], ◌∷◌, ap, ◌∙◌}
use Rattle.nanorand.specs.generators.ChaChaRounds.{block}
use Rattle.nanorand.proofs.lemmas.chacha.RowLemmas.{rows_block}
use Rattle.nanorand.proofs.crypto.chacha.block.chacha_block.Goals as goal

pub returns : goal.returns
returns g c =
    let sums = c.add.result ∷ c.add-2.result ∷ c.add-3.result ∷ c.add-4.result ∷ [] in
    c.matrix_of.ensures
    ∙ rows_block g.row.ROUNDS sums c.mix.result c.rows_of-rows.result c.mix.ensures
    c.add.ensures c.add-2.ensures c.add-3.ensures c.add-4.ensures
    ∙ ap (block g.row.ROUNDS) c.rows_of-rows.ensures
