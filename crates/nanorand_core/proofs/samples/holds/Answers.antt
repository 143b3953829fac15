use Rattle.std.proofs.Common.{◌≡◌, ◌==◌, false, sym, arith}
use Rattle.std.proofs.lemmas.Bool.{ne_eqb}
use Rattle.std.proofs.lemmas.List.Elements.{All-from_get_or}
use Rattle.std.proofs.lemmas.List.Folds.{list_any_none}
use Rattle.nanorand_core.proofs.samples.holds.Goals as goal

pub returns : goal.returns
returns c =
    sym (list_any_none (λ other. other == c.args.number) c.args.sample.now
    (All-from_get_or (λ other. (other == c.args.number) ≡ false) c.args.sample.now 0
    (λ place short. ne_eqb _ _ (c.loop-item.invariant.passed place (omega arith) short))))
