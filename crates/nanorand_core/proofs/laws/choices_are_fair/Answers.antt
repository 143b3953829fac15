use Rattle.std.proofs.Common.{◌*◌, ap, ◌∙◌, arith}
use Rattle.nanorand_core.specs.values.Runs.{quota}
use Rattle.nanorand_core.proofs.lemmas.ranges.CountLemmas.{count_by-below}
use Rattle.nanorand_core.proofs.lemmas.ranges.EventLemmas.{event_words}
use Rattle.nanorand_core.proofs.lemmas.ranges.FairnessLemmas.{shares}
use Rattle.nanorand_core.proofs.lemmas.shuffles.CopyLemmas.{copies-inside}
use Rattle.nanorand_core.proofs.laws.choices_are_fair.Goals as goal

pub returns-clause-items : goal.returns-clause-items
returns-clause-items c = λ bits count i _ fits low.
    event_words bits count _ (shares bits count (omega arith) fits)
    ∙ ap (λ n. n * quota bits count) (copies-inside i 0 count (omega arith) (omega arith)) ∙ omega arith

pub returns-clause-ratios : goal.returns-clause-ratios
returns-clause-ratios c = λ bits numerator denominator _ some fits within.
    event_words bits denominator _ (shares bits denominator some fits)
    ∙ ap (λ n. n * quota bits denominator) (count_by-below numerator denominator within)
