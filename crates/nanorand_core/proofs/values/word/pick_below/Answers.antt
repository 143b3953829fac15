use Rattle.std.proofs.Common.{◌*◌, ◌%◌, ◌^◌, ◌<◌, ◌≤◌, sym, ◌∙◌, arith}
use Rattle.std.proofs.lemmas.Bool.{leb-true, leb-false}
use Rattle.std.proofs.lemmas.Nat.{mod_below}
use Rattle.nanorand_core.proofs.lemmas.ranges.RunLemmas.{picks, rejects}
use Rattle.nanorand_core.specs.values.Runs.{rejected}
use Rattle.nanorand_core.proofs.values.word.pick_below.Goals as goal
use Rattle.nanorand_core.proofs.values.word.pick_below.Goals.{then-low-size, else-low-size}

-- fewer than `size` words are rejected, so a low half of `size` or more is accepted
pub returns-then-low-rejected : goal.returns-then-low-rejected
returns-then-low-rejected c =
    let fewer = mod_below (2 ^ c.args.bits) c.args.size c.requires.some in
    let kept : rejected c.args.bits c.args.size ≤ c.args.word * c.args.size % 2 ^ c.args.bits =
    elim c.if-low-size.branch [
      | then-low-size w ↦ let high = rw c.halves_of-number.ensures.low at w.if-low-size.true in omega arith
      | else-low-size w ↦
          let test = rw (c.halves_of-number.ensures.low, w.rejected.ensures) at w.value-is in
          leb-true _ _ (sym test ∙ c.if-low-rejected.true)
    ] in
    rw c.halves_of-number.ensures.high (sym (picks c.args.bits c.args.size c.args.word c.requires.some c.requires.fits kept))

pub returns-else-low-rejected : goal.returns-else-low-rejected
returns-else-low-rejected c =
    let low : c.args.word * c.args.size % 2 ^ c.args.bits < rejected c.args.bits c.args.size =
    elim c.if-low-size.branch [
      | then-low-size w ↦ absurd (omega (arith, leb-false _ _ (sym w.value-is ∙ c.if-low-rejected.false)))
      | else-low-size w ↦
          let test = rw (c.halves_of-number.ensures.low, w.rejected.ensures) at w.value-is in
          leb-false _ _ (sym test ∙ c.if-low-rejected.false)
    ] in
    sym (rejects c.args.bits c.args.size c.args.word c.requires.some low)
