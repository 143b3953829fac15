use Rattle.std.proofs.Common.{ap, arith}
use Rattle.nanorand_core.specs.values.Draws.{next_word}
use Rattle.nanorand.proofs.lemmas.generators.PartLemmas.{of_the_part, parts-apart}
use Rattle.nanorand.proofs.laws.all_parts_are_apart.Goals as goal

pub returns-clause-apart : goal.returns-clause-apart
returns-clause-apart g c =
    parts-apart _ _ (of_the_part c.part.result (c.part.ensures.within.1 (omega arith)) c.part.ensures.once)

pub returns-clause-again : goal.returns-clause-again
returns-clause-again g c =
    let states = of_the_part c.part.result (c.part.ensures.within.1 (omega arith)) c.part.ensures.again in
    (states.0, states.1, λ n from. ap (next_word g.G.Rng.requests 64) (states.2 n from))
