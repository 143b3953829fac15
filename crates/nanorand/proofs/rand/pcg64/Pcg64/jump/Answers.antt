use Rattle.std.proofs.Common.{◌∙◌, ◌-◌, ap}
use Rattle.nanorand.specs.generators.Pcg64.{Generator, seed_after}
use Rattle.nanorand.proofs.lemmas.cycles.Pcg64Lemmas.{next-last}
use Rattle.nanorand.proofs.rand.pcg64.Pcg64.jump.Goals as goal

pub returns-then-n-gt0 : goal.returns-then-n-gt0
returns-then-n-gt0 c =
    c.rand.ensures.state
    ∙ next-last c.args.n _ c.args.self.now c.if-n-gt0.true
    (c.seed_after-self-inside.ensures ∙ ap (λ (g : Generator). seed_after (c.args.n - 1) g.seed) c.self.view_is)
