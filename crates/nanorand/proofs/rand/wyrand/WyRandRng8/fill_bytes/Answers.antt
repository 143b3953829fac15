use Rattle.nanorand.proofs.rand.wyrand.WyRandRng8.fill_bytes.Goals as goal

pub returns-clause-state : goal.returns-clause-state
returns-clause-state c = c.fill_by_blocks.ensures.state

pub returns-clause-bytes : goal.returns-clause-bytes
returns-clause-bytes c = c.fill_by_blocks.ensures.bytes
