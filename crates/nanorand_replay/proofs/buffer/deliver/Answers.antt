use Rattle.std.proofs.Common.{◌≡◌, ◌≤◌, ◌<◌, ℕ, List, ◌++◌, [], length, length-append, length-take, length-drop, take}
use Rattle.std.proofs.Common.{drop, ◌+◌, ◌-◌, refl, arith, ap, sym, ◌∙◌}
use Rattle.std.proofs.lemmas.List.{take_at, take_rest, drop-drop}
use Rattle.nanorand_replay.specs.generators.Buffered.{buffer_of, buffered_taken, buffered_after}
use Rattle.nanorand_core.specs.support.BlockLemmas.{put_end}
use Rattle.nanorand_replay.specs.support.BufferedLemmas.{same_buffer, taken_kept, after_kept, taken_past, after_past}
use Rattle.nanorand_replay.proofs.buffer.deliver.Goals as goal
use Rattle.nanorand_replay.proofs.buffer.deliver.Goals.{else-out-via-then-out+else-start-out, else-out-via-else-out}

-- the number of buffered bytes
kept_length : (output cursor : ℕ) (block : List ℕ) → length block ≡ output → length (drop cursor block) ≡ output - cursor
kept_length output cursor block long = length-drop cursor block ∙ ap (λ n. n - cursor) long

-- the part of a slice that is left after its front is written
left_of_slice : (front out : List ℕ) (kept : ℕ) → length front ≡ kept → kept ≤ length out →
    let written = front ++ drop kept out in
    length (take (length written - kept) (drop kept written)) ≡ length out - kept
left_of_slice front out kept long within =
    rw (length-take, length-drop, length-append, length-drop, long) (omega (arith, within))

pub returns-then-start-out-clause-bytes : goal.returns-then-start-out-clause-bytes
returns-then-start-out-clause-bytes g c =
    let laws = g.met.G.Blocks in
    let start : ℕ = c.args.cursor.now in
    let kept = drop start c.args.block.now in
    let long = kept_length g.row.OUTPUT start c.args.block.now c.told-block in
    let part : start + length c.args.out.now - start ≡ length c.args.out.now = omega arith in
    c.copy_from_slice.ensures.after ∙ ap (λ k. take k kept) part
    ∙ sym (taken_kept g.G.Blocks.block g.G.Blocks.step g.row.OUTPUT laws.positive laws.block_length
    (buffer_of kept c.args.inner.now) (length c.args.out.now) (omega (arith, long)))

pub returns-then-start-out-clause-state : goal.returns-then-start-out-clause-state
returns-then-start-out-clause-state g c =
    let laws = g.met.G.Blocks in
    let start : ℕ = c.args.cursor.now in
    let kept = drop start c.args.block.now in
    let long = kept_length g.row.OUTPUT start c.args.block.now c.told-block in
    same_buffer (sym (drop-drop (length c.args.out.now) start c.args.block.now)) refl
    ∙ sym (after_kept g.G.Blocks.block g.G.Blocks.step g.row.OUTPUT laws.positive laws.block_length
    (buffer_of kept c.args.inner.now) (length c.args.out.now) (omega (arith, long)))

pub returns-else-out-clause-bytes : goal.returns-else-out-clause-bytes
returns-else-out-clause-bytes g c =
    let start : ℕ = c.min-start.result in
    let same : start ≡ c.args.cursor.now = omega arith in
    let past : g.row.OUTPUT - start < length c.args.out.now = elim c.else-out.branch [
      | else-out-via-then-out+else-start-out w ↦ omega (arith, w.if-start-out.false)
      | else-out-via-else-out w ↦ omega (arith, w.if-out.false)
    ] in
    rw (← same) (
    let laws = g.met.G.Blocks in
    let block = g.G.Blocks.block in
    let step = g.G.Blocks.step in
    let output : ℕ = g.row.OUTPUT in
    let out = c.args.out.now in
    let rest = drop start c.args.block.now in
    let kept : ℕ = output - start in
    let long = kept_length output start c.args.block.now c.told-block in
    let front = c.copy_from_slice-else-out.new.self in
    let copied = c.copy_from_slice-else-out.ensures.after ∙ take_rest c.args.block.now start in
    let front_length : length front ≡ kept = ap length copied ∙ long in
    let written = front ++ drop kept out in
    let left = left_of_slice front out kept front_length (omega (arith, past)) ∙ ap (λ n. length out - n) (sym long) in
    put_end kept (length written - kept) written c.deliver_blocks.new.out (omega arith)
    ∙ ap (λ bytes. bytes ++ c.deliver_blocks.new.out) (take_at front (drop kept out) kept front_length ∙ copied)
    ∙ ap (λ bytes. rest ++ bytes) (c.deliver_blocks.ensures.bytes ∙ ap (λ n. buffered_taken block step output (buffer_of [] c.args.inner.now) n) left)
    ∙ sym (taken_past block step output laws.positive laws.block_length (buffer_of rest c.args.inner.now) (length out) (omega (arith, long, past))))

pub returns-else-out-clause-state : goal.returns-else-out-clause-state
returns-else-out-clause-state g c =
    let start : ℕ = c.min-start.result in
    let same : start ≡ c.args.cursor.now = omega arith in
    let past : g.row.OUTPUT - start < length c.args.out.now = elim c.else-out.branch [
      | else-out-via-then-out+else-start-out w ↦ omega (arith, w.if-start-out.false)
      | else-out-via-else-out w ↦ omega (arith, w.if-out.false)
    ] in
    rw (← same) (
    let laws = g.met.G.Blocks in
    let block = g.G.Blocks.block in
    let step = g.G.Blocks.step in
    let output : ℕ = g.row.OUTPUT in
    let out = c.args.out.now in
    let rest = drop start c.args.block.now in
    let kept : ℕ = output - start in
    let long = kept_length output start c.args.block.now c.told-block in
    let copied = c.copy_from_slice-else-out.ensures.after ∙ take_rest c.args.block.now start in
    let left =
    left_of_slice c.copy_from_slice-else-out.new.self out kept (ap length copied ∙ long) (omega (arith, past))
    ∙ ap (λ n. length out - n) (sym long) in
    c.deliver_blocks.ensures.state ∙ ap (λ n. buffered_after block step output (buffer_of [] c.args.inner.now) n) left
    ∙ sym (after_past block step output laws.positive laws.block_length (buffer_of rest c.args.inner.now) (length out) (omega (arith, long, past))))
