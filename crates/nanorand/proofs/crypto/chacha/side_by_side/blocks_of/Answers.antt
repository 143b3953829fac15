use Rattle.nanorand.proofs.lemmas.chacha.RowLemmas.{rows_summed_block}
use Rattle.nanorand.proofs.crypto.chacha.side_by_side.blocks_of.Goals as goal

pub returns : goal.returns
returns g c j h =
    rows_summed_block (g.V.Vector.lane j) g.row.ROUNDS c.mix-mixed.result c.args.x (c.mix-mixed.ensures j h)
    (c.sum_row.ensures j h) (c.sum_row-2.ensures j h) (c.sum_row-3.ensures j h) (c.sum_row-4.ensures j h)
