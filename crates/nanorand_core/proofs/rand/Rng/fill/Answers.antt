use Rattle.std.proofs.Common.{◌≡◌, ℕ, suc, ◌+◌, ◌-◌, ◌<◌, length, append_assoc, length-set, arith}
use Rattle.std.proofs.lemmas.List.{take_more_set}
use Rattle.nanorand_core.proofs.rand.Rng.fill.Goals as goal

pub loop-item-preserved : goal.loop-item-preserved
loop-item-preserved g c =
    let target = c.loop-item.target in
    let place : ℕ = c.loop-item.item-index in
    let within : place < length target = omega arith in
    let left : length target - place ≡ suc (length target - (place + 1)) = omega arith in
    record {
      values = rw (
        length-set,
        take_more_set target place c.generate.result within,
        append_assoc,
        c.generate.ensures.value,
        c.generate.ensures.state,
      ) (rw left at c.loop-item.invariant.values);
      state = rw (length-set, c.generate.ensures.state) (rw left at c.loop-item.invariant.state);
    }
