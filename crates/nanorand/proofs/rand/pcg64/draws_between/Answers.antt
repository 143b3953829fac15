use Rattle.std.proofs.Common.{◌≡◌, arith}
use Rattle.std.proofs.lemmas.Nat.{one_shl, pow_below}
use Rattle.nanorand.proofs.lemmas.cycles.DistanceLemmas.{IsDecided-start, IsDecided-unset, IsDecided-set, IsDecided-end}
use Rattle.nanorand.proofs.rand.pcg64.draws_between.Goals as goal
use Rattle.nanorand.proofs.rand.pcg64.draws_between.Goals.{then-end-seed-ne0, else-end-seed-ne0}

pub loop-bit-init : goal.loop-bit-init
loop-bit-init c = IsDecided-start c.args.start c.args.end (omega arith) (omega arith) c.requires

pub overflow_add-draws : goal.overflow_add-draws
overflow_add-draws c =
    omega (arith, one_shl c.loop-bit.bit 128 (omega arith), pow_below c.loop-bit.bit 126 c.loop-bit-test.true)

pub loop-bit-preserved : goal.loop-bit-preserved
loop-bit-preserved c =
    elim c.if-end-seed-ne0.branch [
      | then-end-seed-ne0 w ↦
          rw (w.seed-is, w.draws-is, one_shl c.loop-bit.bit 128 (omega arith))
          (IsDecided-set _ _ _ _ _ _ _ c.loop-bit-test.true (omega arith) w.if-end-seed-ne0.true c.loop-bit.invariant)
      | else-end-seed-ne0 w ↦
          rw (w.seed-is, w.draws-is)
          (IsDecided-unset _ _ _ _ _ _ _ c.loop-bit-test.true (omega arith) w.if-end-seed-ne0.false c.loop-bit.invariant)
    ]

pub returns-clause-leads : goal.returns-clause-leads
returns-clause-leads c =
    let last : c.loop-bit.bit ≡ 126 = omega arith in
    IsDecided-end _ _ _ _ _ _ (omega arith) (rw last at c.loop-bit.invariant)
