use Rattle.nanorand.proofs.lemmas.chacha.QuarterLemmas.{quarter_made}
use Rattle.nanorand.proofs.crypto.chacha.side_by_side.quarter_round.Goals as goal

pub returns : goal.returns
returns g c j h =
    quarter_made _ _ _ _
    (c.add-a1.ensures j h) (c.xor_rotate-d1.ensures j h) (c.add-c1.ensures j h) (c.xor_rotate-b1.ensures j h)
    (c.add-a2.ensures j h) (c.xor_rotate-d2.ensures j h) (c.add-c2.ensures j h) (c.xor_rotate-b2.ensures j h)
