use Rattle.std.proofs.Common.{rules}
use Rattle.draw_core.proofs.generators.replay_wyrand.Goals as goal

pub returns-in-Plain-clause-answers : goal.returns-in-Plain-clause-answers
returns-in-Plain-clause-answers c = rw c.in-Plain.is (rw c.reseed.ensures at c.replay.ensures.answers)

pub returns-in-Plain-clause-items : goal.returns-in-Plain-clause-items
returns-in-Plain-clause-items c = rw c.in-Plain.is (rw c.reseed.ensures at c.replay.ensures.items)

pub returns-in-Buffered-clause-answers : goal.returns-in-Buffered-clause-answers
returns-in-Buffered-clause-answers c = search rules

pub returns-in-Buffered-clause-items : goal.returns-in-Buffered-clause-items
returns-in-Buffered-clause-items c = search rules
