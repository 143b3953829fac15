use Rattle.nanorand_c.proofs.lots.nanorand_v1_lots_digest.Goals as goal

pub returns : goal.returns
returns c = c.digest.ensures
