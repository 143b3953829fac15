use Rattle.std.proofs.Common.{ℕ, Bool, List, ◌-◌, ◌+◌, ◌*◌, [], refl, sym, ap, ◌∙◌, inr}
use Rattle.std.specs.List.{list_all}
use Rattle.std.proofs.lemmas.List.FromFn.{length-range_with_len}
use Rattle.nanorand_core.specs.values.Runs.{IsWordWidth}
use Rattle.nanorand_fairness.specs.InTurn.{quotas, word_lists_that}
use Rattle.nanorand_fairness.specs.Samples.{sample_by, sample_sizes}
use Rattle.nanorand_fairness.proofs.lemmas.EvenLists.{even-lists}
use Rattle.nanorand_fairness.proofs.lemmas.SampleLists.{sample-rows, sample-sizes}
use Rattle.nanorand_fairness.proofs.laws.sampled_sets_are_fair.Goals as goal

pub returns-clause-sets : goal.returns-clause-sets
returns-clause-sets c = λ size count test within fits members.
    let sizes = sample_sizes size count in
    let passes : List ℕ → Bool = λ draws. list_all test (sample_by (count - size) draws []) in
    ap (λ (n : ℕ). word_lists_that 64 n sizes passes) (sym (length-range_with_len (count - size + 1) size))
    ∙ c.numbers_in_turn_are_fair.ensures.numbers 64 sizes passes (inr (inr (inr refl))) (sample-sizes size count 64 within fits)
    ∙ ap (λ (n : ℕ). n * quotas 64 sizes) (sample-rows (list_all test) size (count - size) [] ∙ c.samples_are_fair.ensures.sets size count test within members)

pub returns-clause-rejections : goal.returns-clause-rejections
returns-clause-rejections c = λ size count n test other within fits members others.
    let width : IsWordWidth 64 = inr (inr (inr refl)) in
    let sets = c.samples_are_fair.ensures.sets size count in
    even-lists c.numbers_in_turn_are_fair.ensures.rejections 64 n (sample_sizes size count)
    (λ draws. list_all test (sample_by (count - size) draws [])) (λ draws. list_all other (sample_by (count - size) draws []))
    width (sample-sizes size count 64 within fits)
    (sample-rows (list_all test) size (count - size) [] ∙ sets test within members
    ∙ sym (sets other within others) ∙ sym (sample-rows (list_all other) size (count - size) []))
