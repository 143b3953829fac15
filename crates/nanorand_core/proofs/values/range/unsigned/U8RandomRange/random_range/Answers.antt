use Rattle.nanorand_core.proofs.values.range.unsigned.U8RandomRange.random_range.Goals as goal

pub returns-clause-value : goal.returns-clause-value
returns-clause-value g c = c.draw_number.ensures.value

pub returns-clause-state : goal.returns-clause-state
returns-clause-state g c = c.draw_number.ensures.state
