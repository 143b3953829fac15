use Rattle.std.proofs.Common.{◌*◌, ◌∙◌, ap₂, sym}
use Rattle.nanorand.specs.generators.Pcg64.{pcg64_after, pcg64_requests}
use Rattle.nanorand.specs.support.Pcg64DrawLemmas.{pcg64_steps}
use Rattle.nanorand.specs.support.OnwardLemmas.{draws-leave}
use Rattle.nanorand.proofs.lemmas.generators.StatePeriodLemmas.{pcg64_again, pcg64_once}
use Rattle.nanorand.proofs.rand.pcg64.Pcg64Parts8.part.Goals as goal

pub returns-clause-begins : goal.returns-clause-begins
returns-clause-begins c =
    let before = c.args.index * c.args.draws in
    c.jump.ensures ∙ ap₂ pcg64_after c.in_ok-before.ensures.before c.copied-part.ensures.state
    ∙ sym (draws-leave pcg64_requests before c.args.self.now ∙ pcg64_steps before c.args.self.now)

pub returns-clause-once : goal.returns-clause-once
returns-clause-once c = pcg64_once c.args.self.now c.copied-part.ensures.fits

pub returns-clause-again : goal.returns-clause-again
returns-clause-again c = pcg64_again c.args.self.now
