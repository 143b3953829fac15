use Rattle.std.proofs.Common.{lit<, ◌∙◌}
use Rattle.nanorand.proofs.lemmas.chacha.RowLemmas.{lane_block}
use Rattle.nanorand.proofs.crypto.chacha.eight_blocks.eight_blocks.Goals as goal

pub returns-clause-first : goal.returns-clause-first
returns-clause-first g c =
    c.eight_matrices.ensures.front.0
    ∙ lane_block g.row.ROUNDS 0 c.args.x.now _ _ (c.blocks_of.ensures 0 (lit< tt)) (c.eight_states.ensures 0 (lit< tt))

pub returns-clause-second : goal.returns-clause-second
returns-clause-second g c =
    c.eight_matrices.ensures.front.1
    ∙ lane_block g.row.ROUNDS 1 c.args.x.now _ _ (c.blocks_of.ensures 1 (lit< tt)) (c.eight_states.ensures 1 (lit< tt))

pub returns-clause-third : goal.returns-clause-third
returns-clause-third g c =
    c.eight_matrices.ensures.front.2
    ∙ lane_block g.row.ROUNDS 2 c.args.x.now _ _ (c.blocks_of.ensures 2 (lit< tt)) (c.eight_states.ensures 2 (lit< tt))

pub returns-clause-fourth : goal.returns-clause-fourth
returns-clause-fourth g c =
    c.eight_matrices.ensures.front.3
    ∙ lane_block g.row.ROUNDS 3 c.args.x.now _ _ (c.blocks_of.ensures 3 (lit< tt)) (c.eight_states.ensures 3 (lit< tt))

pub returns-clause-fifth : goal.returns-clause-fifth
returns-clause-fifth g c =
    c.eight_matrices.ensures.back.0
    ∙ lane_block g.row.ROUNDS 4 c.args.x.now _ _ (c.blocks_of.ensures 4 (lit< tt)) (c.eight_states.ensures 4 (lit< tt))

pub returns-clause-sixth : goal.returns-clause-sixth
returns-clause-sixth g c =
    c.eight_matrices.ensures.back.1
    ∙ lane_block g.row.ROUNDS 5 c.args.x.now _ _ (c.blocks_of.ensures 5 (lit< tt)) (c.eight_states.ensures 5 (lit< tt))

pub returns-clause-seventh : goal.returns-clause-seventh
returns-clause-seventh g c =
    c.eight_matrices.ensures.back.2
    ∙ lane_block g.row.ROUNDS 6 c.args.x.now _ _ (c.blocks_of.ensures 6 (lit< tt)) (c.eight_states.ensures 6 (lit< tt))

pub returns-clause-eighth : goal.returns-clause-eighth
returns-clause-eighth g c =
    c.eight_matrices.ensures.back.3
    ∙ lane_block g.row.ROUNDS 7 c.args.x.now _ _ (c.blocks_of.ensures 7 (lit< tt)) (c.eight_states.ensures 7 (lit< tt))
