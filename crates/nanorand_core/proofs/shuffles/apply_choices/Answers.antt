use Rattle.std.proofs.Common.{sym, ◌∙◌, ap, swap, get_or, length, arith}
use Rattle.std.proofs.lemmas.List.{take_all}
use Rattle.nanorand_core.proofs.lemmas.shuffles.ChoiceLemmas.{arranged-more, arranged-permutation, Chosen-valid}
use Rattle.nanorand_core.proofs.shuffles.apply_choices.Goals as goal

pub loop-place-preserved : goal.loop-place-preserved
loop-place-preserved g c =
    c.swap.ensures ∙
    ap (λ xs. swap xs c.loop-place.place (get_or c.args.choices.now c.loop-place.place 0)) c.loop-place.invariant ∙
    sym (arranged-more c.args.choices.now c.args.items.now c.loop-place.place c.loop-place-test.true)

pub returns-clause-arrangement : goal.returns-clause-arrangement
returns-clause-arrangement g c =
    let all = take_all c.loop-place.place c.args.choices.now (omega arith) in
    rw (c.loop-place.invariant, all)
    (arranged-permutation 0 c.args.choices.now c.args.items.now (omega arith)
    (Chosen-valid (length c.args.items.now) c.args.choices.now (omega arith) c.requires.valid))
