use Rattle.nanorand.proofs.lemmas.cycles.DistanceLemmas.{IsDecided}
use Rattle.nanorand.proofs.rand.pcg64.draws_between.Given as goal

abbrev pub invariant-loop-bit : goal.invariant-loop-bit
invariant-loop-bit l = IsDecided l.factor l.term l.bit l.draws l.seed l.start l.end
