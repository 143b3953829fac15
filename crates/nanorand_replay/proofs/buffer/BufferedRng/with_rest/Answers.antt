use Rattle.std.proofs.Common.{ℕ, length, drop, ◌-◌, refl, arith, ap, ◌∙◌, drop_at, length-take-le, length-append, length-take, length-drop}
use Rattle.std.proofs.lemmas.Bool.{false≢true}
use Rattle.std.proofs.lemmas.List.{length-replicate}
use Rattle.nanorand_core.specs.support.BlockLemmas.{put_end}
use Rattle.nanorand_replay.specs.support.BufferedLemmas.{same_buffer}
use Rattle.nanorand_replay.proofs.buffer.BufferedRng.with_rest.Goals as goal

pub returns-clause-state : goal.returns-clause-state
returns-clause-state g c =
    let cursor : ℕ = g.row.OUTPUT - length c.args.rest.now in
    let long = length-replicate {A = ℕ} g.row.OUTPUT 0 in
    same_buffer
    (ap (λ bytes. drop cursor bytes) (put_end cursor _ _ _ (omega (arith, long)))
    ∙ drop_at _ _ cursor (length-take-le cursor _ (omega (arith, long))) ∙ c.copy_from_slice.ensures.after)
    refl

pub returns-clause-fits : goal.returns-clause-fits
returns-clause-fits g c = (λ _. c.if-rest.false, λ _. refl)

pub invariant_of-result : goal.invariant_of-result
invariant_of-result g c = (
  omega arith,
  omega arith,
  simp (length-append, length-take, length-drop, length-replicate, c.copy_from_slice.ensures.after) (omega arith),
)

pub returns-then-rest-clause-fits : goal.returns-then-rest-clause-fits
returns-then-rest-clause-fits g c = (λ same. absurd (false≢true same), λ less. absurd (omega (arith, less)))
