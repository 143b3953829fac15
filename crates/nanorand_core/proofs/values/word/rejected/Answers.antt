use Rattle.std.proofs.Common.{◌-◌, ◌<◌, ◌^◌, arith, sym, ◌∙◌}
use Rattle.std.proofs.Math.Nat.{mod-eq_of_lt}
use Rattle.std.proofs.lemmas.Nat.{one_shl}
use Rattle.nanorand_core.proofs.lemmas.ranges.RunLemmas.{rejected-less}
use Rattle.nanorand_core.proofs.values.word.rejected.Goals as goal

pub returns-then-others-size : goal.returns-then-others-size
returns-then-others-size c =
    let width : c.args.bits < 128 = omega (arith, c.requires.width) in
    let few = rw (c.from.ensures, one_shl c.args.bits 128 width) at c.if-others-size.true in
    rw (c.from.ensures, one_shl c.args.bits 128 width)
    (sym (mod-eq_of_lt {n = 2 ^ c.args.bits - c.args.size} {m = c.args.size} few) ∙ rejected-less c.args.bits c.args.size c.requires.within)

pub returns-else-others-size : goal.returns-else-others-size
returns-else-others-size c =
    let width : c.args.bits < 128 = omega (arith, c.requires.width) in
    rw (c.remainder.ensures, c.from.ensures, one_shl c.args.bits 128 width) (rejected-less c.args.bits c.args.size c.requires.within)
