use Rattle.nanorand_core.specs.generators.Blocks.{taken, plain_after}
use Rattle.nanorand_core.specs.support.BlockLemmas.{put_end}
use Rattle.std.proofs.Common.{◌≡◌, ℕ, List, ◌-◌, ◌≤◌, ◌++◌, take, drop, length, length-drop, arith, lit<, ap, ◌∙◌}
use Rattle.std.proofs.lemmas.List.{take_rest}
use Rattle.nanorand.specs.generators.ChaCha.{chacha_block, next_state}
use Rattle.nanorand.specs.support.ChaChaDrawLemmas.{length-chacha_block}
use Rattle.nanorand.proofs.lemmas.chacha.GroupLemmas.{grouped_length, grouped_bytes, grouped_state}
use Rattle.nanorand.proofs.rand.chacha.ChaChaRng64.fill_bytes.Goals as goal

left_of : (n : ℕ) (xs : List ℕ) → length (take (length xs - n) (drop n xs)) ≡ length xs - n
left_of n xs = ap length (take_rest xs n) ∙ length-drop n xs

pub groups-preserved : goal.groups-preserved
groups-preserved g c =
    let block = chacha_block g.row.ROUNDS in
    let size = length-chacha_block g.row.ROUNDS in
    let buffer = c.groups.buffer in
    let filled : ℕ = c.groups.filled in
    let room : 256 ≤ length buffer - filled = c.groups-test.true in
    let written = c.fill_four.ensures.bytes in
    let long = grouped_length block next_state size 4 (lit< tt) buffer c.fill_four.new.out filled c.groups.self room written in
    let bytes = grouped_bytes block next_state size 4 (lit< tt) buffer c.fill_four.new.out filled c.groups.self room written in
    let state = grouped_state block next_state size 4 (lit< tt) buffer c.fill_four.new.out filled c.groups.self room written in
    record {
      within = rw long (omega arith);
      bytes = rw (long, c.fill_four.ensures.state) (bytes ∙ c.groups.invariant.bytes);
      state = rw (long, c.fill_four.ensures.state) (state ∙ c.groups.invariant.state);
    }

pub returns-clause-state : goal.returns-clause-state
returns-clause-state g c =
    let groups = c.groups in
    c.fill_by_blocks.ensures.state ∙ ap (λ n. plain_after next_state 64 groups.self n) (left_of groups.filled groups.buffer) ∙ groups.invariant.state
    ∙ ap (λ n. plain_after next_state 64 c.args.self.now n) (groups.auto.buffer ∙ c.fill_wide-filled.ensures.length)

pub returns-clause-bytes : goal.returns-clause-bytes
returns-clause-bytes g c =
    let block = chacha_block g.row.ROUNDS in
    let groups = c.groups in
    put_end groups.filled _ groups.buffer _ (omega arith)
    ∙ ap (λ bytes. take groups.filled groups.buffer ++ bytes)
    (c.fill_by_blocks.ensures.bytes ∙ ap (λ n. taken block next_state groups.self n) (left_of groups.filled groups.buffer))
    ∙ groups.invariant.bytes ∙ ap (λ n. taken block next_state c.args.self.now n) (groups.auto.buffer ∙ c.fill_wide-filled.ensures.length)
