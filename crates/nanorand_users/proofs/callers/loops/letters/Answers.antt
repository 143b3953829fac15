use Rattle.std.proofs.Common.{◌≢◌, ◌<◌, Contains, length, get_or-set_other, get_or-set_same, below_more, arith}
use Rattle.std.proofs.lemmas.List.Elements.{All-from_get_or}
use Rattle.nanorand_users.proofs.callers.loops.letters.Goals as goal

pub loop-place-preserved : goal.loop-place-preserved
loop-place-preserved c =
    let within : c.loop-place.place < length c.loop-place.out = omega arith in
    below_more _ _
    (λ k low. let other : k ≢ c.loop-place.place = omega arith in rw get_or-set_other (c.loop-place.invariant k low))
    (rw get_or-set_same c.in_ok-out.ensures)

pub returns : goal.returns
returns c = All-from_get_or (Contains c.args.alphabet.now) _ 0 (λ k low. c.loop-place.invariant k (omega arith))
