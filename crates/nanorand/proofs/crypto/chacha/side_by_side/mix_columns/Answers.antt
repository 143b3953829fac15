use Rattle.nanorand.specs.generators.ChaChaRounds.{on_columns}
use Rattle.nanorand.proofs.crypto.chacha.side_by_side.mix_columns.Goals as goal

pub returns : goal.returns
unfolding on_columns
returns g c j h =
    rw (
      ← c.quarter_round-x0.ensures j h,
      ← c.quarter_round-x1.ensures j h,
      ← c.quarter_round-x2.ensures j h,
      ← c.quarter_round-x3.ensures j h,
    )
