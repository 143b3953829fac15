use Rattle.nanorand_core.proofs.lemmas.ranges.LimitLemmas.{keeps_limits}
use Rattle.nanorand_core.proofs.laws.range_limits.Goals as goal

pub returns-clause-unsigned : goal.returns-clause-unsigned
returns-clause-unsigned g c = λ bits state low high. keeps_limits _ _ _ _ bits _ low high state

pub returns-clause-signed : goal.returns-clause-signed
returns-clause-signed g c = λ bits state low high. keeps_limits _ _ _ _ bits _ low high state
