use Rattle.std.proofs.Common.{[], sum, sym, refl, ◌∙◌}
use Rattle.nanorand_replay.specs.generators.Buffered.{buffer_of, buffered, buffered_taken}
use Rattle.nanorand_replay.specs.support.BufferedLemmas.{after_nothing, after_add, taken_add, taken_fresh}
use Rattle.nanorand_replay.proofs.lemmas.UnbrokenLemmas.{unbroken}
use Rattle.nanorand_replay.proofs.laws.fresh_delivery.Goals as goal

pub returns-clause-one : goal.returns-clause-one
returns-clause-one g c = λ state n.
    let laws = g.met.G.Blocks in
    taken_fresh g.G.Blocks.block g.G.Blocks.step g.row.OUTPUT laws.positive laws.block_length state n
    ∙ sym (g.met.G.Rng.delivers state n)

pub returns-clause-all : goal.returns-clause-all
unfolding buffered_taken
returns-clause-all g c = λ state sizes.
    let block = g.G.Blocks.block in
    let step = g.G.Blocks.step in
    let positive = g.met.G.Blocks.positive in
    let size = g.met.G.Blocks.block_length in
    let law = unbroken (buffered block step g.row.OUTPUT)
    (after_nothing block step g.row.OUTPUT positive size)
    (λ _. refl)
    (after_add block step g.row.OUTPUT positive size)
    (λ b m n. sym (taken_add block step g.row.OUTPUT positive size b m n)) in
    law.all_takes (buffer_of [] state) sizes
    ∙ taken_fresh block step g.row.OUTPUT positive size state (sum sizes)
    ∙ sym (g.met.G.Rng.delivers state (sum sizes))
