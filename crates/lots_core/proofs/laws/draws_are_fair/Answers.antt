use Rattle.lots_core.proofs.laws.draws_are_fair.Goals as goal

pub returns-clause-shares : goal.returns-clause-shares
returns-clause-shares c =
    λ m count n place within fits low. c.shuffles_are_fair.ensures.shares count n m place within fits low
