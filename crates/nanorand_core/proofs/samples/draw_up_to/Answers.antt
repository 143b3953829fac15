use Rattle.nanorand_core.specs.samples.Samples.{number_up_to}
use Rattle.nanorand_core.proofs.samples.draw_up_to.Goals as goal

pub returns-clause-value : goal.returns-clause-value
unfolding number_up_to
returns-clause-value g c = c.random_range.ensures.value

pub returns-clause-state : goal.returns-clause-state
unfolding number_up_to
returns-clause-state g c = c.random_range.ensures.state
