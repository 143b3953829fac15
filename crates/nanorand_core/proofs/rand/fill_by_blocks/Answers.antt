use Rattle.std.proofs.Common.{◌≡◌, ℕ, ◌+◌, ◌-◌, ◌<◌, ◌≤◌, ◌++◌, length, take, min, arith, ap, sym, ◌∙◌}
use Rattle.std.proofs.lemmas.List.{append-nil, take_all}
use Rattle.nanorand_core.specs.generators.Blocks.{taken, plain_after}
use Rattle.nanorand_core.specs.support.BlockLemmas.{taken_nothing, filled_length, filled_bytes, filled_state, put_end, taken_front, plain_after_front}
use Rattle.nanorand_core.proofs.rand.fill_by_blocks.Goals as goal

pub loop-filled-preserved : goal.loop-filled-preserved
loop-filled-preserved g c =
    let laws = g.met.G.Blocks in
    let block = g.G.Blocks.block in
    let step = g.G.Blocks.step in
    let output : ℕ = g.row.OUTPUT in
    let buffer = c.loop-filled.buffer in
    let filled : ℕ = c.loop-filled.filled in
    let room : filled + output ≤ length buffer = c.loop-filled-test.true in
    let open_place : filled < length buffer = omega (arith, laws.positive) in
    let whole : take output (block c.loop-filled.rng)
    ≡ block c.loop-filled.rng = take_all output (block c.loop-filled.rng)
    (omega (arith, laws.block_length c.loop-filled.rng)) in
    let part : output ≡ min output (length buffer - filled) = omega arith in
    let written = c.copy_from_slice.ensures.after ∙ c.rand-block.ensures.bytes ∙ sym whole in
    let long = filled_length block step output laws.positive laws.block_length buffer c.copy_from_slice.new.self
    filled output c.loop-filled.rng open_place part written in
    let bytes = filled_bytes block step output laws.positive laws.block_length buffer c.copy_from_slice.new.self
    filled output c.loop-filled.rng open_place part written in
    let state = filled_state block step output laws.positive laws.block_length buffer c.copy_from_slice.new.self
    filled output c.loop-filled.rng open_place part written in
    record {
      within = rw long (omega arith);
      bytes = rw (long, c.rand-block.ensures.state) (bytes ∙ c.loop-filled.invariant.bytes);
      state = rw (long, c.rand-block.ensures.state) (state ∙ c.loop-filled.invariant.state);
    }

pub returns-then-left-gt0-clause-bytes : goal.returns-then-left-gt0-clause-bytes
returns-then-left-gt0-clause-bytes g c =
    let laws = g.met.G.Blocks in
    let left : ℕ = length c.loop-filled.buffer - c.loop-filled.filled in
    let few : left ≤ g.row.OUTPUT = omega (arith, c.loop-filled-test.false) in
    let front = taken_front g.G.Blocks.block g.G.Blocks.step g.row.OUTPUT laws.positive laws.block_length c.loop-filled.rng left few in
    let written = c.copy_from_slice-then-left-gt0.ensures.after ∙ ap (λ bytes. take left bytes) c.rand-block-then-left-gt0.ensures.bytes ∙ sym front in
    put_end c.loop-filled.filled left c.loop-filled.buffer c.copy_from_slice-then-left-gt0.new.self (omega arith)
    ∙ ap (λ bytes. take c.loop-filled.filled c.loop-filled.buffer ++ bytes) written
    ∙ c.loop-filled.invariant.bytes ∙ ap (λ n. taken g.G.Blocks.block g.G.Blocks.step c.args.rng.now n) c.loop-filled.auto.buffer

pub returns-then-left-gt0-clause-state : goal.returns-then-left-gt0-clause-state
returns-then-left-gt0-clause-state g c =
    let laws = g.met.G.Blocks in
    let left : ℕ = length c.loop-filled.buffer - c.loop-filled.filled in
    let few : left ≤ g.row.OUTPUT = omega (arith, c.loop-filled-test.false) in
    let front = plain_after_front g.G.Blocks.block g.G.Blocks.step g.row.OUTPUT laws.positive laws.block_length c.loop-filled.rng left c.if-left-gt0.true few in
    c.rand-block-then-left-gt0.ensures.state ∙ sym front ∙ c.loop-filled.invariant.state
    ∙ ap (λ n. plain_after g.G.Blocks.step g.row.OUTPUT c.args.rng.now n) c.loop-filled.auto.buffer

pub returns-else-left-gt0-clause-bytes : goal.returns-else-left-gt0-clause-bytes
returns-else-left-gt0-clause-bytes g c =
    let full : c.loop-filled.filled ≡ length c.loop-filled.buffer = omega arith in
    let none : length c.loop-filled.buffer - length c.loop-filled.buffer ≡ 0 = omega arith in
    let all : take (length c.loop-filled.buffer) c.loop-filled.buffer
    ≡ c.loop-filled.buffer = take_all (length c.loop-filled.buffer) c.loop-filled.buffer (omega arith) in
    let whole = rw (full, none, taken_nothing g.G.Blocks.block g.G.Blocks.step, append-nil, all) at c.loop-filled.invariant.bytes in
    rw c.loop-filled.auto.buffer at whole
