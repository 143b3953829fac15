use Rattle.std.proofs.Common.{lit<, ◌∙◌}
use Rattle.nanorand.proofs.lemmas.chacha.RowLemmas.{lane_block}
use Rattle.nanorand.proofs.crypto.chacha.four_blocks.four_blocks.Goals as goal

pub returns-clause-first : goal.returns-clause-first
returns-clause-first g c =
    c.matrices.ensures.0
    ∙ lane_block g.row.ROUNDS 0 c.args.x.now _ _ (c.blocks_of.ensures 0 (lit< tt)) (c.four_states.ensures 0 (lit< tt))

pub returns-clause-second : goal.returns-clause-second
returns-clause-second g c =
    c.matrices.ensures.1
    ∙ lane_block g.row.ROUNDS 1 c.args.x.now _ _ (c.blocks_of.ensures 1 (lit< tt)) (c.four_states.ensures 1 (lit< tt))

pub returns-clause-third : goal.returns-clause-third
returns-clause-third g c =
    c.matrices.ensures.2
    ∙ lane_block g.row.ROUNDS 2 c.args.x.now _ _ (c.blocks_of.ensures 2 (lit< tt)) (c.four_states.ensures 2 (lit< tt))

pub returns-clause-fourth : goal.returns-clause-fourth
returns-clause-fourth g c =
    c.matrices.ensures.3
    ∙ lane_block g.row.ROUNDS 3 c.args.x.now _ _ (c.blocks_of.ensures 3 (lit< tt)) (c.four_states.ensures 3 (lit< tt))
