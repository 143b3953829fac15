use Rattle.std.proofs.Common.{sym, ◌∙◌, arith}
use Rattle.nanorand_users.proofs.callers.counted.lines_are_alike.Goals as goal

pub returns : goal.returns
returns c = λ three others are_three are_others.
    let sets = c.reservoir_words_are_fair.ensures.sets 3 10 in
    sets three (omega arith) (omega arith) are_three ∙ sym (sets others (omega arith) (omega arith) are_others)
