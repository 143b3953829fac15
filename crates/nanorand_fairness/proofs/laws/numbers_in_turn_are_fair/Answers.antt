use Rattle.std.proofs.Common.{ℕ, ◌*◌, length, true, ap, ◌∙◌, arith}
use Rattle.nanorand_core.specs.values.Draws.{word_limit}
use Rattle.nanorand_fairness.specs.InTurn.{number_lists_that}
use Rattle.nanorand_fairness.proofs.lemmas.TurnCounts.{equally_many, quotas_of_each}
use Rattle.nanorand_fairness.proofs.lemmas.TurnSwaps.{swaps_in_turn}
use Rattle.nanorand_fairness.proofs.laws.numbers_in_turn_are_fair.Goals as goal

pub returns-clause-numbers : goal.returns-clause-numbers
returns-clause-numbers c = λ bits sizes test width are.
    equally_many c.fairness.ensures.runs c.fairness.ensures.events bits width (length sizes) sizes word_limit test are
    ∙ ap (λ (n : ℕ). number_lists_that sizes test * n) (quotas_of_each bits sizes 127)

pub returns-clause-rejections : goal.returns-clause-rejections
returns-clause-rejections c = λ bits n sizes test width are.
    let some = equally_many c.fairness.ensures.runs c.fairness.ensures.events bits width n sizes word_limit test are in
    let all = equally_many c.fairness.ensures.runs c.fairness.ensures.events bits width n sizes word_limit (λ numbers. true) are in
    rw (some, all) (omega arith)

pub returns-clause-swaps : goal.returns-clause-swaps
returns-clause-swaps c = λ bits exchanges words width can. swaps_in_turn c.fairness.ensures.swaps bits width exchanges words can
