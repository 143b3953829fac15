use Rattle.std.proofs.Common.{◌≡◌, length, ◌∙◌, ap, arith}
use Rattle.nanorand_core.specs.shuffles.Arrangements.{rising}
use Rattle.nanorand_core.proofs.lemmas.shuffles.ChoiceLemmas.{choosing_start, choosing_step, choosing_refused}
use Rattle.nanorand_core.proofs.lemmas.shuffles.ChoiceLemmas.{end_chosen, end_made, made_alone, made_arrangement}
use Rattle.nanorand_core.proofs.shuffles.choices_of.Goals as goal

pub loop-place-init : goal.loop-place-init
loop-place-init c =
    choosing_start c.args.order.now c.args.out.now c.identity.new.slots
    (c.identity.ensures ∙ ap rising (omega arith))

pub returns-in-None-clause-refused : goal.returns-in-None-clause-refused
returns-in-None-clause-refused c =
    choosing_refused c.args.order.now c.loop-place.out c.loop-place.scratch (omega arith) (omega arith)
    c.loop-place.place c.loop-place.invariant c.loop-place-test.true c.in-None.ensures

pub loop-place-preserved : goal.loop-place-preserved
loop-place-preserved c =
    rw c.swap.ensures
    (choosing_step c.args.order.now c.loop-place.out c.loop-place.scratch (omega arith) (omega arith)
    c.loop-place.place c.in-Some.choice c.loop-place.invariant c.loop-place-test.true
    c.in-Some.ensures.0 (omega (arith, c.in-Some.ensures.1)) c.in-Some.ensures.2)

pub returns-clause-makes : goal.returns-clause-makes
returns-clause-makes c =
    let done : c.loop-place.place ≡ length c.args.order.now = omega arith in
    end_made c.args.order.now c.loop-place.out c.loop-place.scratch (omega arith) (omega arith) c.loop-place.place done c.loop-place.invariant

pub returns-clause-alone : goal.returns-clause-alone
returns-clause-alone c =
    let done : c.loop-place.place ≡ length c.args.order.now = omega arith in
    made_alone c.args.order.now c.loop-place.out (omega arith)
    (end_chosen c.args.order.now c.loop-place.out c.loop-place.scratch (omega arith) (omega arith) c.loop-place.place done c.loop-place.invariant)
    (end_made c.args.order.now c.loop-place.out c.loop-place.scratch (omega arith) (omega arith) c.loop-place.place done c.loop-place.invariant)

pub returns-clause-exact : goal.returns-clause-exact
returns-clause-exact c =
    let done : c.loop-place.place ≡ length c.args.order.now = omega arith in
    made_arrangement c.args.order.now c.loop-place.out (omega arith)
    (end_chosen c.args.order.now c.loop-place.out c.loop-place.scratch (omega arith) (omega arith) c.loop-place.place done c.loop-place.invariant)
    (end_made c.args.order.now c.loop-place.out c.loop-place.scratch (omega arith) (omega arith) c.loop-place.place done c.loop-place.invariant)
