use Rattle.std.proofs.Common.{◌≡◌, ◌<◌, ◌^◌, take}
use Rattle.std.specs.List.{sum}
use Rattle.nanorand_core.proofs.choices.weighted.total_weight.Given as goal

abbrev pub invariant-loop-weight : goal.invariant-loop-weight
invariant-loop-weight l = record {
  so_far : l.total ≡ sum (take l.weight-index l.weights);
  fits : l.total < 2 ^ 64;
}
