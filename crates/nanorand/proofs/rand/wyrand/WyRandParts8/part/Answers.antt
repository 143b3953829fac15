use Rattle.std.proofs.Common.{arith, ◌*◌, ◌∙◌, ap₂, sym}
use Rattle.nanorand.specs.generators.WyRand.{wyrand_after, wyrand_requests}
use Rattle.nanorand.specs.support.WyRandDrawLemmas.{wyrand_steps}
use Rattle.nanorand.specs.support.OnwardLemmas.{draws-leave}
use Rattle.nanorand.proofs.lemmas.generators.StatePeriodLemmas.{wyrand_again, wyrand_once}
use Rattle.nanorand.proofs.rand.wyrand.WyRandParts8.part.Goals as goal

pub returns-clause-begins : goal.returns-clause-begins
returns-clause-begins c =
    let before = c.args.index * c.args.draws in
    c.jump.ensures.state ∙ ap₂ wyrand_after c.in_ok-before.ensures.before c.self.view_is
    ∙ sym (draws-leave wyrand_requests before c.args.self.now ∙ wyrand_steps before c.args.self.now)

pub returns-clause-once : goal.returns-clause-once
returns-clause-once c = wyrand_once c.args.self.now (rw (← c.self.view_is) (omega arith))

pub returns-clause-again : goal.returns-clause-again
returns-clause-again c = wyrand_again c.args.self.now (rw (← c.self.view_is) (omega arith))
