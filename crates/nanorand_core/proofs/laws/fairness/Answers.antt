use Rattle.std.proofs.Common.{arith, refl}
use Rattle.nanorand_core.proofs.lemmas.ranges.RunLemmas.{picks}
use Rattle.nanorand_core.proofs.lemmas.ranges.FairnessLemmas.{shares}
use Rattle.nanorand_core.proofs.lemmas.ranges.SwapLemmas.{swaps}
use Rattle.nanorand_core.proofs.lemmas.ranges.EventLemmas.{event_words}
use Rattle.nanorand_core.proofs.laws.fairness.Goals as goal

pub returns-clause-runs : goal.returns-clause-runs
returns-clause-runs c = λ bits size _ some fits. shares bits size some fits

pub returns-clause-swaps : goal.returns-clause-swaps
returns-clause-swaps c = λ bits size j k _ some fits j_low k_low words. swaps bits size j k some fits j_low k_low words

pub returns-clause-events : goal.returns-clause-events
returns-clause-events c = λ bits size test _ some fits. event_words bits size test (shares bits size some fits)

pub returns-clause-divisors : goal.returns-clause-divisors
returns-clause-divisors c = λ bits size word _ some none fits. rw (picks bits size word some fits (rw none (omega arith))) refl
