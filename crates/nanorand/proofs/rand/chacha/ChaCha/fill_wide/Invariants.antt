use Rattle.std.proofs.Common.{length, ◌-◌, ◌≡◌, ◌≤◌, ◌++◌, take}
use Rattle.nanorand_core.specs.generators.Blocks.{taken, plain_after}
use Rattle.nanorand.specs.generators.ChaCha.{chacha_block, next_state}
use Rattle.nanorand.proofs.rand.chacha.ChaCha.fill_wide.Given as goal

-- the bytes so far, followed by those of a request for the rest, are those of the whole request
abbrev pub invariant-groups : goal.invariant-groups
invariant-groups g l =
    let block = chacha_block g.row.ROUNDS in
    record {
      within : l.filled ≤ length l.buffer;
      bytes : take l.filled l.buffer ++ taken block next_state l.self (length l.buffer - l.filled) ≡ taken block next_state l.fn.self (length l.buffer);
      state : plain_after next_state 64 l.self (length l.buffer - l.filled) ≡ plain_after next_state 64 l.fn.self (length l.buffer);
    }

abbrev pub decreases-groups : goal.decreases-groups
decreases-groups g l = length l.initial.buffer - l.filled
