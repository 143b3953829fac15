use Rattle.std.proofs.Common.{ℕ, Bool, true, List, ◌-◌, ◌+◌, ◌*◌, refl, sym, ap, ◌∙◌, inr, arith}
use Rattle.std.specs.List.{list_all, range_with_len}
use Rattle.std.proofs.lemmas.List.FromFn.{length-range_with_len}
use Rattle.nanorand_core.specs.samples.Samples.{holds}
use Rattle.nanorand_core.specs.values.Runs.{IsWordWidth}
use Rattle.nanorand_fairness.specs.InTurn.{quotas, word_lists_that}
use Rattle.nanorand_fairness.specs.Reservoirs.{later_sizes, reservoir_by}
use Rattle.nanorand_fairness.proofs.lemmas.EvenLists.{even-lists, share-lists}
use Rattle.nanorand_fairness.proofs.lemmas.ReservoirLists.{later-sizes, reservoir-rows}
use Rattle.nanorand_fairness.proofs.laws.reservoir_words_are_fair.Goals as goal

pub returns-clause-items : goal.returns-clause-items
returns-clause-items c = λ size count n item within fits low.
    let width : IsWordWidth 64 = inr (inr (inr refl)) in
    let first = range_with_len 0 size in
    let one = ap (λ (m : ℕ). count * m) (reservoir-rows (holds item) (count - size) size first) in
    let all = ap (λ (m : ℕ). size * m) (reservoir-rows (λ chosen. true) (count - size) size first) in
    let fair = c.reservoirs_are_fair.ensures.items size count item within low in
    let shares = share-lists c.numbers_in_turn_are_fair.ensures.rejections 64 n count size (later_sizes size count)
    (λ slots. holds item (reservoir_by size slots)) (λ slots. true) width (later-sizes size count 64 fits) (omega (arith, one, all, fair)) in
    omega (arith, shares)

pub returns-clause-sets : goal.returns-clause-sets
returns-clause-sets c = λ size count test within fits members.
    let sizes = later_sizes size count in
    let passes : List ℕ → Bool = λ slots. list_all test (reservoir_by size slots) in
    ap (λ (n : ℕ). word_lists_that 64 n sizes passes) (sym (length-range_with_len (size + 1) (count - size)))
    ∙ c.numbers_in_turn_are_fair.ensures.numbers 64 sizes passes (inr (inr (inr refl))) (later-sizes size count 64 fits)
    ∙ ap (λ (n : ℕ). n * quotas 64 sizes)
    (reservoir-rows (list_all test) (count - size) size (range_with_len 0 size) ∙ c.reservoirs_are_fair.ensures.sets size count test within members)

pub returns-clause-rejections : goal.returns-clause-rejections
returns-clause-rejections c = λ size count n test other within fits members others.
    let width : IsWordWidth 64 = inr (inr (inr refl)) in
    let first = range_with_len 0 size in
    let sets = c.reservoirs_are_fair.ensures.sets size count in
    even-lists c.numbers_in_turn_are_fair.ensures.rejections 64 n (later_sizes size count)
    (λ slots. list_all test (reservoir_by size slots)) (λ slots. list_all other (reservoir_by size slots))
    width (later-sizes size count 64 fits)
    (reservoir-rows (list_all test) (count - size) size first ∙ sets test within members
    ∙ sym (sets other within others) ∙ sym (reservoir-rows (list_all other) (count - size) size first))
