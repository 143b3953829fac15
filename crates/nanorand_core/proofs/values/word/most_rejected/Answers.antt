use Rattle.std.proofs.Common.{◌-◌, ◌<◌, ◌≤◌, ◌^◌, arith}
use Rattle.std.proofs.Math.Nat.{mod-le}
use Rattle.std.proofs.lemmas.Nat.{mod_below, one_shl}
use Rattle.nanorand_core.specs.values.Runs.{rejected}
use Rattle.nanorand_core.proofs.lemmas.ranges.RunLemmas.{rejected-less}
use Rattle.nanorand_core.proofs.values.word.most_rejected.Goals as goal

pub returns-clause-reaches : goal.returns-clause-reaches
returns-clause-reaches c =
    let width : c.args.bits < 128 = omega (arith, c.requires.width) in
    let fewer = mod_below (2 ^ c.args.bits) c.args.size c.requires.some in
    let less : rejected c.args.bits c.args.size ≤ 2 ^ c.args.bits - c.args.size =
    rw (rejected-less c.args.bits c.args.size c.requires.within) at (mod-le (2 ^ c.args.bits - c.args.size) c.args.size) in
    rw (c.min.ensures, c.from.ensures, one_shl c.args.bits 128 width) (omega (arith, fewer, less))
