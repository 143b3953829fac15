use Rattle.std.proofs.Common.{◌*◌, ◌%◌, ◌^◌, nat_le, sym, inl, inr}
use Rattle.std.proofs.lemmas.Bool.{cases_Bool, leb-true, leb-false}
use Rattle.nanorand_core.specs.values.Runs.{rejected}
use Rattle.nanorand_core.proofs.lemmas.ranges.RunLemmas.{picks, rejects}
use Rattle.nanorand_core.proofs.values.word.pick_counted.Goals as goal

pub returns : goal.returns
returns c =
    rw (c.then_some.ensures, c.halves_of-number.ensures.high, c.halves_of-number.ensures.low, c.requires.counted)
    (elim (cases_Bool (nat_le (rejected c.args.bits c.args.size) (c.args.word * c.args.size % 2 ^ c.args.bits))) [
      | inl kept ↦ rw kept (sym (picks c.args.bits c.args.size c.args.word c.requires.some c.requires.fits (leb-true _ _ kept)))
      | inr low ↦ rw low (sym (rejects c.args.bits c.args.size c.args.word c.requires.some (leb-false _ _ low)))
    ])
