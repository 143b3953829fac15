use Rattle.std.proofs.Common.{take, arith}
use Rattle.std.proofs.lemmas.List.{length-take}
use Rattle.nanorand_core.specs.values.Draws.{word_limit}
use Rattle.nanorand_fairness.proofs.lemmas.DrawLists.{taken-at-most}
use Rattle.nanorand_fairness.proofs.lemmas.FirstWords.{first-undecided, first-few}
use Rattle.nanorand_fairness.proofs.laws.words_of_a_draw.Goals as goal

pub returns-clause-undecided : goal.returns-clause-undecided
returns-clause-undecided c = λ bits size n width some fits. first-undecided bits n word_limit c.fairness.ensures.runs
    c.fairness.ensures.events size width some fits

pub returns-clause-limit : goal.returns-clause-limit
returns-clause-limit c = λ bits size words.
    let taken = taken-at-most bits size (take word_limit words) in
    let first = length-take word_limit words in
    omega (arith, taken, first)

pub returns-clause-few : goal.returns-clause-few
returns-clause-few c = λ bits size n width some fits. first-few bits n word_limit c.fairness.ensures.runs c.fairness.ensures.events size width some fits
