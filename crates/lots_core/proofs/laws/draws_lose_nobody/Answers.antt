use Rattle.std.proofs.Common.{length, take, sym, ◌∙◌, ap, subst, IsPermutation, arith}
use Rattle.std.proofs.lemmas.List.{take_all}
use Rattle.std.proofs.lemmas.List.Sorted.{length_permutation}
use Rattle.lots_core.specs.Draws.{drawing, start_of}
use Rattle.lots_core.proofs.lemmas.PlaceLemmas.{drawn-by-place}
use Rattle.lots_core.proofs.laws.draws_lose_nobody.Goals as goal

pub returns-clause-places : goal.returns-clause-places
returns-clause-places g c = λ seed count entrants other within. drawn-by-place seed count entrants other

pub returns-clause-all : goal.returns-clause-all
returns-clause-all g c = λ seed entrants.
    let n = length entrants in
    let items = (drawing seed n entrants).items in
    let h = c.partial_shuffles.ensures.arrangement n (start_of seed) entrants in
    subst (IsPermutation entrants) (sym (take_all n items (omega (arith, length_permutation entrants items h)))) h

pub returns-clause-begins : goal.returns-clause-begins
returns-clause-begins g c = λ seed count entrants within.
    let n = length entrants in
    let law = c.partial_shuffles.ensures in
    let start = start_of seed in
    let items = (drawing seed n entrants).items in
    let all = take_all n items (omega (arith, length_permutation entrants items (law.arrangement n start entrants))) in
    law.first count start entrants
    ∙ ap (λ shuffle. take count shuffle.items) (sym (law.whole n start entrants (omega arith)))
    ∙ ap (take count) (sym all)
