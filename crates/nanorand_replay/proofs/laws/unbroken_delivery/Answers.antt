use Rattle.std.proofs.Common.{sym, refl}
use Rattle.nanorand_replay.specs.generators.Buffered.{buffered, buffered_taken}
use Rattle.nanorand_replay.specs.support.BufferedLemmas.{length-buffered_taken, after_nothing, after_add, taken_add, taken_unbroken, rest_below}
use Rattle.nanorand_replay.proofs.lemmas.WordLemmas.{words-in-turn}
use Rattle.nanorand_replay.proofs.lemmas.UnbrokenLemmas.{unbroken}
use Rattle.nanorand_replay.proofs.laws.unbroken_delivery.Goals as goal

pub returns-clause-unbroken : goal.returns-clause-unbroken
unfolding buffered_taken
returns-clause-unbroken g c =
    let block = g.G.Blocks.block in
    let step = g.G.Blocks.step in
    let positive = g.met.G.Blocks.positive in
    let size = g.met.G.Blocks.block_length in
    unbroken (buffered block step g.row.OUTPUT)
    (after_nothing block step g.row.OUTPUT positive size)
    (λ _. refl)
    (after_add block step g.row.OUTPUT positive size)
    (λ b m n. sym (taken_add block step g.row.OUTPUT positive size b m n))

pub returns-clause-stream : goal.returns-clause-stream
returns-clause-stream g c = taken_unbroken g.G.Blocks.block g.G.Blocks.step g.row.OUTPUT g.met.G.Blocks.positive g.met.G.Blocks.block_length

pub returns-clause-below : goal.returns-clause-below
returns-clause-below g c = rest_below g.G.Blocks.block g.G.Blocks.step g.row.OUTPUT g.met.G.Blocks.positive g.met.G.Blocks.block_length

pub returns-clause-words : goal.returns-clause-words
returns-clause-words g c = λ bits n b.
    let block = g.G.Blocks.block in
    let step = g.G.Blocks.step in
    let positive = g.met.G.Blocks.positive in
    let size = g.met.G.Blocks.block_length in
    words-in-turn (buffered block step g.row.OUTPUT)
    (after_nothing block step g.row.OUTPUT positive size)
    (after_add block step g.row.OUTPUT positive size)
    (λ h m k. sym (taken_add block step g.row.OUTPUT positive size h m k))
    (length-buffered_taken block step g.row.OUTPUT positive size)
    bits n b
