use Rattle.std.proofs.Common.{length, ◌∙◌, arith}
use Rattle.std.proofs.lemmas.List.{map-id}
use Rattle.std.proofs.lemmas.List.FromFn.{fill_by_all}
use Rattle.nanorand_core.specs.shuffles.Arrangements.{rising}
use Rattle.nanorand_core.proofs.shuffles.identity.Goals as goal

pub returns : goal.returns
returns c =
    let count = length c.args.slots.now in
    fill_by_all (λ k. k) c.loop-place.slots count 0 (omega arith)
    (λ k low. c.loop-place.invariant k (omega arith)) ∙ map-id (rising count)
