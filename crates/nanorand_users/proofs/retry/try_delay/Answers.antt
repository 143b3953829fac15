use Rattle.nanorand_users.specs.Retry.{delay_drawn}
use Rattle.nanorand_users.proofs.retry.try_delay.Goals as goal

pub returns-clause-value : goal.returns-clause-value
unfolding delay_drawn
returns-clause-value g c = c.between.ensures.value

pub returns-clause-state : goal.returns-clause-state
unfolding delay_drawn
returns-clause-state g c = c.between.ensures.state
