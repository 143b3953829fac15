use Rattle.std.proofs.Common.{refl, inl, arith}
use Rattle.nanorand_users.proofs.callers.counted.throws_that_wait.Goals as goal

pub returns : goal.returns
returns c = c.words_of_a_draw.ensures.undecided 8 6 3 (inl refl) (omega arith) (omega arith)
