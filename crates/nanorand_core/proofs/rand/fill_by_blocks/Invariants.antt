use Rattle.std.proofs.Common.{length, ◌-◌, ◌≡◌, ◌≤◌, ◌++◌, take}
use Rattle.nanorand_core.specs.generators.Blocks.{taken, plain_after}
use Rattle.nanorand_core.proofs.rand.fill_by_blocks.Given as goal

-- the bytes so far, followed by those of a request for the rest, are those of the whole request
abbrev pub invariant-loop-filled : goal.invariant-loop-filled
invariant-loop-filled g l =
    let block = g.G.Blocks.block in
    let step = g.G.Blocks.step in
    record {
      within : l.filled ≤ length l.buffer;
      bytes : take l.filled l.buffer ++ taken block step l.rng (length l.buffer - l.filled) ≡ taken block step l.fn.rng (length l.buffer);
      state : plain_after step g.row.OUTPUT l.rng (length l.buffer - l.filled) ≡ plain_after step g.row.OUTPUT l.fn.rng (length l.buffer);
    }

abbrev pub decreases-loop-filled : goal.decreases-loop-filled
decreases-loop-filled g l = length l.initial.buffer - l.filled
