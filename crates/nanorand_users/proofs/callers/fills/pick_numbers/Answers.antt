use Rattle.std.proofs.Common.{◌<◌, nat_lt, subst}
use Rattle.std.proofs.iter.runs.Sources.{range_runs}
use Rattle.std.proofs.lemmas.Bool.{lt-ltb, ltb-true}
use Rattle.std.proofs.lemmas.List.Elements.{All-weaker}
use Rattle.std.proofs.lemmas.Option.{IfSome_then}
use Rattle.std.proofs.lemmas.Result.{IfOk-weaker}
use Rattle.nanorand_users.proofs.callers.fills.pick_numbers.Goals as goal

pub returns : goal.returns
returns g c =
    let count = c.args.count in
    let passed = c.reservoir.ensures.all (λ number. nat_lt number count)
    (λ run seen from k. IfSome_then (run.at k) ((range_runs run seen).2 k) (λ number at. lt-ltb number count (subst (λ range. number < range.end) from at.1))) in
    IfOk-weaker c.reservoir.result _ _ (λ picked all. All-weaker _ _ (λ number. ltb-true number count) _ all) passed
