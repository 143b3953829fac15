use Rattle.nanorand.proofs.lemmas.cycles.JumpLemmas.{IsOnWay}
use Rattle.nanorand.proofs.rand.pcg64.seed_after.Given as goal

abbrev pub invariant-bits : goal.invariant-bits
invariant-bits l = IsOnWay l.factor l.term l.left l.seed l.draws l.start

abbrev pub decreases-bits : goal.decreases-bits
decreases-bits l = l.left
