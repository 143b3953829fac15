use Rattle.std.proofs.Common.{◌∙◌, arith}
use Rattle.nanorand_users.proofs.lemmas.ResultLemmas.{on_ok}
use Rattle.nanorand_users.proofs.callers.counted.winners_by_words.Goals as goal

pub returns : goal.returns
returns c =
    let numbers = rw c.told-winners at c.sample.ensures.whole in
    let words = c.samples_draw_in_turn.ensures 3 10 c.args.rng.now (omega arith) (omega arith) in
    on_ok c.sample.result numbers (λ is. is ∙ words)
