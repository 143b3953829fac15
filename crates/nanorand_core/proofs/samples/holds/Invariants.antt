use Rattle.std.proofs.Common.{◌≡◌, ◌≢◌, ℕ, ◌+◌, ◌<◌, ◌≤◌, get_or, length}
use Rattle.nanorand_core.specs.support.Chains.{chain_of}
use Rattle.nanorand_core.proofs.samples.holds.Given as goal

abbrev pub decreases-loop-item : goal.decreases-loop-item
decreases-loop-item l = l.item

-- no place from here on has the number, and the place below belongs to its chain
abbrev pub invariant-loop-item : goal.invariant-loop-item
invariant-loop-item l = record {
  within : l.item ≤ length l.sample;
  belongs : (place : ℕ) → l.item ≡ place + 1
      → chain_of l.chains (get_or l.sample place 0) ≡ chain_of l.chains l.number;
  passed : (place : ℕ) → l.item ≤ place → place < length l.sample → get_or l.sample place 0 ≢ l.number;
}
