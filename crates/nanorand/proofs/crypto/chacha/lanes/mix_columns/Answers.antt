use Rattle.std.proofs.Common.{lit<}
use Rattle.nanorand.specs.generators.ChaChaRounds.{of_columns, on_columns}
use Rattle.nanorand.proofs.lemmas.chacha.MatrixLemmas.{of_four}
use Rattle.nanorand.proofs.crypto.chacha.lanes.mix_columns.Goals as goal

pub returns : goal.returns
unfolding on_columns
returns c =
    let lane = c.quarter_round.ensures in
    of_four of_columns _ _ _ _ _ _ _ _ (lane 0 (lit< tt)) (lane 1 (lit< tt)) (lane 2 (lit< tt)) (lane 3 (lit< tt))
