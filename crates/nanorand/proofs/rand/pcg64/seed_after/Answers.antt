use Rattle.std.proofs.Common.{arith}
use Rattle.nanorand.proofs.lemmas.cycles.JumpLemmas.{IsOnWay-start, IsOnWay-even, IsOnWay-odd, IsOnWay-end}
use Rattle.nanorand.proofs.rand.pcg64.seed_after.Goals as goal
use Rattle.nanorand.proofs.rand.pcg64.seed_after.Goals.{then-left-eq1, else-left-eq1}

pub bits-init : goal.bits-init
bits-init c = IsOnWay-start c.args.draws c.args.start

pub bits-preserved : goal.bits-preserved
bits-preserved c =
    elim c.if-left-eq1.branch [
      | then-left-eq1 w ↦ rw w.seed-is (IsOnWay-odd _ _ _ _ _ _ w.if-left-eq1.true c.bits.invariant)
      | else-left-eq1 w ↦ rw w.seed-is (IsOnWay-even _ _ _ _ _ _ (omega arith) c.bits.invariant)
    ]

pub returns : goal.returns
returns c = IsOnWay-end _ _ _ _ _ _ (omega arith) (omega arith) c.bits.invariant
