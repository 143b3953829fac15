use Rattle.nanorand_core.specs.support.IterateLemmas.{iterate-add, iterate-more}
use Rattle.nanorand_core.proofs.lemmas.ValueLemmas.{values_from-add, values_from-more}
use Rattle.nanorand_core.proofs.laws.values_join.Goals as goal

pub returns : goal.returns
returns g c = record {
  values = values_from-add;
  states = iterate-add;
  last_value = values_from-more;
  last_state = iterate-more;
}
