use Rattle.std.proofs.Common.{length, take, ◌≡◌, ◌-◌, ◌≤◌}
use Rattle.std.specs.Io.KnownBytes.{Consumes}
use Rattle.nanorand.proofs.entropy.system.Given as goal

-- The reader has given exactly the bytes that are filled. While none are filled, it is unchanged.
abbrev pub invariant-loop-filled : goal.invariant-loop-filled
invariant-loop-filled g l = record {
  in_slice : l.filled ≤ length l.out;
  so_far : Consumes (g.R.Read.remaining l.fn.source) (g.R.Read.remaining l.source) (take l.filled l.out);
  at_first : l.filled ≡ 0 → l.source ≡ l.fn.source;
}

abbrev pub decreases-loop-filled : goal.decreases-loop-filled
decreases-loop-filled g l = length l.initial.out - l.filled
