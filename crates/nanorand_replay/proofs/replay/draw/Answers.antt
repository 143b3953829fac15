use Rattle.std.proofs.Common.{ap, ◌∙◌}
use Rattle.nanorand_replay.specs.declared.replay.Answer.TheVariants.{Unsigned}
use Rattle.nanorand_replay.proofs.replay.draw.Goals as goal

pub returns-in-U16-clause-answer : goal.returns-in-U16-clause-answer
returns-in-U16-clause-answer g c = rw c.in-U16.is (ap Unsigned (c.from-in-U16.ensures ∙ c.random-in-U16.ensures.value))

pub returns-in-U16-clause-state : goal.returns-in-U16-clause-state
returns-in-U16-clause-state g c = rw c.in-U16.is c.random-in-U16.ensures.state
