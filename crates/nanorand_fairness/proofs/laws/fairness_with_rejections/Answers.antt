use Rattle.std.proofs.Common.{nat_eq, nat_lt, ◌∙◌, arith}
use Rattle.nanorand_core.specs.choices.Weighted.{item_at}
use Rattle.std.specs.List.{sum}
use Rattle.nanorand_core.specs.values.Draws.{word_limit}
use Rattle.nanorand_fairness.proofs.lemmas.NamedSums.{one_number}
use Rattle.nanorand_fairness.proofs.lemmas.FirstWords.{first-events}
use Rattle.nanorand_fairness.proofs.lemmas.EventCounts.{event-count, share-count, item-lists}
use Rattle.nanorand_fairness.proofs.laws.fairness_with_rejections.Goals as goal

pub returns-clause-events : goal.returns-clause-events
returns-clause-events c = λ bits size n k test width fits low.
    let laws = c.fairness.ensures in
    first-events bits n word_limit laws.runs laws.events size width (omega arith) fits test (λ j. nat_eq j k) (one_number k size low)

pub returns-clause-ratios : goal.returns-clause-ratios
returns-clause-ratios c = λ bits numerator denominator n k width fits within low.
    let laws = c.fairness.ensures in
    let words = c.choices_are_fair.ensures.ratios bits numerator denominator width (omega arith) fits within in
    let numbers = event-count laws.runs laws.events bits denominator numerator (λ j. nat_lt j numerator) width (omega arith) fits words in
    let lists = first-events bits n word_limit laws.runs laws.events denominator width (omega arith) fits
    (λ j. nat_lt j numerator) (λ j. nat_eq j k) (one_number k denominator low) in
    rw numbers at lists

pub returns-clause-weights : goal.returns-clause-weights
returns-clause-weights c = λ bits weights n i k width fits within low.
    let laws = c.fairness.ensures in
    let words = c.weighted_choices_are_fair.ensures bits weights i width (omega arith) fits within in
    let numbers = share-count laws.runs laws.events bits _ weights i width (omega arith) fits words in
    let lists = first-events bits n word_limit laws.runs laws.events (sum weights) width (omega arith) fits
    (λ j. nat_eq (item_at weights j) i) (λ j. nat_eq j k) (one_number k (sum weights) low) in
    item-lists bits n weights i ∙ rw numbers at lists
