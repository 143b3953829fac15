use Rattle.std.proofs.Common.{ap, ◌∙◌}
use Rattle.nanorand.specs.generators.ChaChaRounds.{quarter_round, on_columns}
use Rattle.nanorand.specs.support.ChaChaRows.{matrix}
use Rattle.nanorand.proofs.lemmas.chacha.RowLemmas.{rows_slanted, rows_upright, upright-columns}
use Rattle.nanorand.proofs.crypto.chacha.lanes.mix_diagonals.Goals as goal

pub returns : goal.returns
returns c =
    let rows = c.args.rows in
    let slant = rows_slanted rows _ _ _ c.from_lane.ensures c.from_lane-2.ensures c.from_lane-3.ensures in
    rows_upright c.mix_columns.result _ _ _ c.from_lane-b.ensures c.from_lane-c.ensures c.from_lane-d.ensures
    ∙ upright-columns quarter_round (matrix rows) (matrix c.mix_columns.result) (c.mix_columns.ensures ∙ ap (on_columns quarter_round) slant)
