use Rattle.std.proofs.Common.{rules, length, ◌∙◌, arith}
use Rattle.std.proofs.lemmas.List.{map-id}
use Rattle.std.proofs.lemmas.List.FromFn.{fill_by_all}
use Rattle.nanorand_core.specs.shuffles.Arrangements.{rising}
use Rattle.lots_core.proofs.draws.number.Goals as goal

pub returns : goal.returns
returns c =
    let count = length c.args.places.now in
    fill_by_all (λ k. k) c.places.places count 0 (omega arith)
    (λ k low. c.places.invariant k (omega arith)) ∙ map-id (rising count)

pub places-preserved : goal.places-preserved
places-preserved c = search rules
