use Rattle.std.proofs.Common.{ℕ, ◌-◌, ◌≤◌, length, arith, lit<, ◌∙◌}
use Rattle.nanorand.specs.generators.ChaCha.{chacha_block, next_state}
use Rattle.nanorand.specs.support.ChaChaDrawLemmas.{length-chacha_block}
use Rattle.nanorand.proofs.lemmas.chacha.GroupLemmas.{grouped_length, grouped_bytes, grouped_state}
use Rattle.nanorand.proofs.rand.chacha.ChaCha.fill_wide.Goals as goal

pub groups-preserved : goal.groups-preserved
groups-preserved g c =
    let block = chacha_block g.row.ROUNDS in
    let size = length-chacha_block g.row.ROUNDS in
    let buffer = c.groups.buffer in
    let filled : ℕ = c.groups.filled in
    let room : 512 ≤ length buffer - filled = c.groups-test.true in
    let written = c.fill_eight.ensures.bytes in
    let long = grouped_length block next_state size 8 (lit< tt) buffer c.fill_eight.new.out filled c.groups.self room written in
    let bytes = grouped_bytes block next_state size 8 (lit< tt) buffer c.fill_eight.new.out filled c.groups.self room written in
    let state = grouped_state block next_state size 8 (lit< tt) buffer c.fill_eight.new.out filled c.groups.self room written in
    record {
      within = rw long (omega arith);
      bytes = rw (long, c.fill_eight.ensures.state) (bytes ∙ c.groups.invariant.bytes);
      state = rw (long, c.fill_eight.ensures.state) (state ∙ c.groups.invariant.state);
    }
