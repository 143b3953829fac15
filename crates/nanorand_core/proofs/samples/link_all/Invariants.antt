use Rattle.std.proofs.Common.{◌≡◌, length}
use Rattle.nanorand_core.specs.support.Chains.{Chained}
use Rattle.nanorand_core.proofs.samples.link_all.Given as goal

abbrev pub invariant-loop-slot : goal.invariant-loop-slot
invariant-loop-slot l = record {
  size : length l.table ≡ length l.fn.table;
  chained : Chained l.chains l.places l.slot l.table;
}
