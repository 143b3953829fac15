use Rattle.std.proofs.Common.{◌≡◌, ℕ, ◌++◌, length, take, drop, ◌-◌, ◌%◌, arith, ap, sym, ◌∙◌}
use Rattle.std.proofs.lemmas.List.{append-nil, length-take-le, take_at, drop_all}
use Rattle.nanorand_core.specs.generators.Blocks.{taken, plain_after}
use Rattle.nanorand_core.specs.support.BlockLemmas.{put_end}
use Rattle.nanorand_replay.specs.support.BufferedLemmas.{same_buffer, taken_fresh, after_fresh, taken_parts, after_parts}
use Rattle.nanorand_replay.proofs.buffer.deliver_blocks.Goals as goal

pub returns-then-last-gt0-clause-bytes : goal.returns-then-last-gt0-clause-bytes
returns-then-last-gt0-clause-bytes g c =
    let laws = g.met.G.Blocks in
    let block = g.G.Blocks.block in
    let step = g.G.Blocks.step in
    let output : ℕ = g.row.OUTPUT in
    let out = c.args.out.now in
    let last : ℕ = length out % output in
    let whole : ℕ = length out - last in
    let old : length (take whole out) ≡ whole = length-take-le whole out (omega arith) in
    let behind = c.fill_by_blocks.ensures.state ∙ ap (λ k. plain_after step output c.args.inner.now k) old in
    let front = c.fill_by_blocks.ensures.bytes ∙ ap (λ k. taken block step c.args.inner.now k) old in
    let filled = c.fill_by_blocks.new.buffer ++ drop whole out in
    let piece = c.copy_from_slice.ensures.after ∙ ap (λ bytes. take last bytes) (c.rand.ensures.bytes ∙ ap block behind) in
    put_end whole (length filled - whole) filled c.copy_from_slice.new.self (omega arith)
    ∙ ap (λ bytes. bytes ++ c.copy_from_slice.new.self)
    (take_at c.fill_by_blocks.new.buffer (drop whole out) whole (c.fill_by_blocks.auto.buffer ∙ old) ∙ front)
    ∙ ap (λ bytes. taken block step c.args.inner.now whole ++ bytes) piece
    ∙ sym (taken_parts block step output laws.positive laws.block_length c.args.inner.now (length out))

pub returns-then-last-gt0-clause-state : goal.returns-then-last-gt0-clause-state
returns-then-last-gt0-clause-state g c =
    let laws = g.met.G.Blocks in
    let out = c.args.out.now in
    let whole : ℕ = length out - length out % g.row.OUTPUT in
    let old : length (take whole out) ≡ whole = length-take-le whole out (omega arith) in
    let behind = c.fill_by_blocks.ensures.state ∙ ap (λ k. plain_after g.G.Blocks.step g.row.OUTPUT c.args.inner.now k) old in
    rw (c.rand.ensures.bytes, c.rand.ensures.state, behind)
    (sym (after_parts g.G.Blocks.block g.G.Blocks.step g.row.OUTPUT laws.positive laws.block_length c.args.inner.now (length out) c.if-last-gt0.true))

pub returns-else-last-gt0-clause-bytes : goal.returns-else-last-gt0-clause-bytes
returns-else-last-gt0-clause-bytes g c =
    let laws = g.met.G.Blocks in
    let block = g.G.Blocks.block in
    let step = g.G.Blocks.step in
    let out = c.args.out.now in
    let whole : ℕ = length out - length out % g.row.OUTPUT in
    let all : length (take whole out) ≡ length out = length-take-le whole out (omega arith) ∙ omega arith in
    ap (λ bytes. c.fill_by_blocks.new.buffer ++ bytes) (drop_all whole out (omega arith)) ∙ append-nil c.fill_by_blocks.new.buffer
    ∙ c.fill_by_blocks.ensures.bytes ∙ ap (λ k. taken block step c.args.inner.now k) all
    ∙ sym (taken_fresh block step g.row.OUTPUT laws.positive laws.block_length c.args.inner.now (length out))

pub returns-else-last-gt0-clause-state : goal.returns-else-last-gt0-clause-state
returns-else-last-gt0-clause-state g c =
    let laws = g.met.G.Blocks in
    let step = g.G.Blocks.step in
    let out = c.args.out.now in
    let whole : ℕ = length out - length out % g.row.OUTPUT in
    let all : length (take whole out) ≡ length out = length-take-le whole out (omega arith) ∙ omega arith in
    same_buffer (drop_all g.row.OUTPUT c.args.block.now (omega (arith, c.told-block)))
    (c.fill_by_blocks.ensures.state ∙ ap (λ k. plain_after step g.row.OUTPUT c.args.inner.now k) all)
    ∙ sym (after_fresh g.G.Blocks.block step g.row.OUTPUT laws.positive laws.block_length c.args.inner.now (length out) (omega arith))
