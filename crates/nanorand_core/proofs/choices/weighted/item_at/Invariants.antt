use Rattle.std.proofs.Common.{◌≡◌, ◌<◌, ◌+◌, drop, take}
use Rattle.std.specs.List.{sum}
use Rattle.nanorand_core.specs.choices.Weighted.{item_at}
use Rattle.nanorand_core.proofs.choices.weighted.item_at.Given as goal

-- the number minus the weights so far
abbrev pub invariant-loop-i : goal.invariant-loop-i
invariant-loop-i l = record {
  passed : sum (take l.i l.weights) + l.left ≡ l.number;
  below : l.left < sum (drop l.i l.weights);
  item : l.i + item_at (drop l.i l.weights) l.left ≡ item_at l.weights l.number;
}
