use Rattle.std.proofs.Common.{ap, sym, ◌∙◌, arith}
use Rattle.nanorand_users.proofs.lemmas.ResultLemmas.{on_ok}
use Rattle.nanorand_users.proofs.callers.counted.choices_by_words.Goals as goal

pub returns : goal.returns
returns c =
    let part = c.partial_shuffles.ensures.whole 5 c.args.rng.now c.args.cards.now (omega (arith, c.told-cards)) in
    let all = c.shuffles_draw_in_turn.ensures 5 c.args.rng.now c.args.cards.now (omega (arith, c.told-cards)) in
    let words = ap (λ shuffle. shuffle.choices) (sym part) ∙ all in
    let counted = rw c.told-cards at words in
    let drawn = rw c.told-cards at c.shuffle_and_record.ensures.drawn in
    on_ok c.shuffle_and_record.result drawn (λ is. is ∙ counted)
