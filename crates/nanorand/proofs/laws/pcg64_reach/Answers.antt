use Rattle.nanorand.proofs.lemmas.cycles.ReachLemmas.{reached-class, reached_once}
use Rattle.nanorand.proofs.laws.pcg64_reach.Goals as goal

pub returns : goal.returns
returns c = record {
  reached = λ s t _ fits. reached-class s t fits;
  once = λ s t _ fits. reached_once s t fits;
}
