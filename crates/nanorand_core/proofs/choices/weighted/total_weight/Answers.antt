use Rattle.std.proofs.lemmas.Grind.{common_steps}
use Rattle.std.proofs.Common.{◌≡◌, ◌^◌, ◌∙◌, sym, ap, refl, arith}
use Rattle.std.specs.List.{sum}
use Rattle.std.proofs.lemmas.Bool.{ne_eqb, lt-leb}
use Rattle.std.proofs.lemmas.List.{take_all}
use Rattle.nanorand_core.proofs.choices.weighted.total_weight.Goals as goal

pub returns : goal.returns
returns c =
    let weights = c.args.weights.now in
    let total = c.loop-weight.total in
    let whole : sum weights ≡ total = sym (c.loop-weight.invariant.so_far ∙ ap sum (take_all c.loop-weight.weight-index weights (omega arith))) in
    rw (whole, ne_eqb total 0 c.if-total-eq0.false, lt-leb (2 ^ 64) total c.loop-weight.invariant.fits) refl

pub returns-in_err-total : goal.returns-in_err-total
returns-in_err-total c = grind (arith, common_steps)

pub loop-weight-preserved : goal.loop-weight-preserved
loop-weight-preserved c = grind (arith, common_steps)
