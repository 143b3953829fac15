use Rattle.nanorand_core.proofs.lemmas.ranges.FairnessLemmas.{shares}
use Rattle.nanorand_core.proofs.lemmas.ranges.EventLemmas.{event_words}
use Rattle.nanorand_core.proofs.lemmas.ShareLemmas.{choices_are_fair}
use Rattle.nanorand_core.proofs.laws.weighted_choices_are_fair.Goals as goal

pub returns : goal.returns
returns c = choices_are_fair (λ bits size test _ some fits. event_words bits size test (shares bits size some fits))
