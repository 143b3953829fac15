use Rattle.std.proofs.Common.{◌≡◌, ap, sym, ◌∙◌, Some, arith, refl}
use Rattle.std.proofs.lemmas.Bool.{false≢true}
use Rattle.nanorand.specs.generators.Pcg64.{Generator, seed_after}
use Rattle.nanorand.proofs.lemmas.cycles.ReachLemmas.{seed_after-only, reached-class}
use Rattle.nanorand.proofs.rand.pcg64.Pcg64.distance.Goals as goal

pub returns-then-in_one_cycle-clause-only : goal.returns-then-in_one_cycle-clause-only
returns-then-in_one_cycle-clause-only c n fits leads =
    let from_fields : seed_after n c.self.inside.seed ≡ c.other.inside.seed =
    ap (λ (g : Generator). seed_after n g.seed) c.self.view_is ∙ leads ∙ sym (ap (λ (g : Generator). g.seed) c.other.view_is) in
    ap Some (seed_after-only _ n _ c.draws_between.ensures.below fits (c.draws_between.ensures.leads ∙ sym from_fields))

pub returns-else-in_one_cycle-clause-only : goal.returns-else-in_one_cycle-clause-only
returns-else-in_one_cycle-clause-only c n fits leads =
    let from_fields : seed_after n c.self.inside.seed ≡ c.other.inside.seed =
    ap (λ (g : Generator). seed_after n g.seed) c.self.view_is ∙ leads ∙ sym (ap (λ (g : Generator). g.seed) c.other.view_is) in
    let class = (reached-class c.self.inside.seed c.other.inside.seed (omega arith)).0 (n, from_fields) in
    absurd (false≢true (sym c.if-in_one_cycle.false ∙ c.in_one_cycle.ensures.1 class))

pub returns-then-in_one_cycle-clause-reached : goal.returns-then-in_one_cycle-clause-reached
returns-then-in_one_cycle-clause-reached c =
    (λ _. rw (← c.self.view_is, ← c.other.view_is) (c.in_one_cycle.ensures.0 c.if-in_one_cycle.true), λ _. refl)

pub returns-then-in_one_cycle-clause-leads : goal.returns-then-in_one_cycle-clause-leads
returns-then-in_one_cycle-clause-leads c = rw (← c.self.view_is, ← c.other.view_is) c.draws_between.ensures.leads
