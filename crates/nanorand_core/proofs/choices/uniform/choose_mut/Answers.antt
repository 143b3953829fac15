use Rattle.std.proofs.Common.{refl, sym, ◌∙◌}
use Rattle.std.proofs.lemmas.Bool.{ltb-true}
use Rattle.std.proofs.lemmas.Option.{slice_get_read}
use Rattle.nanorand_core.proofs.choices.uniform.choose_mut.Goals as goal

pub bounds-items-index : goal.bounds-items-index
bounds-items-index g c = ltb-true _ _ c.in_ok-index.ensures.limits.within.1

pub returns-clause-item : goal.returns-clause-item
returns-clause-item g c =
    let drawn = sym c.in_ok-index.was ∙ c.random_range.ensures.value in
    rw (← drawn) (slice_get_read _ _ _ _ refl (ltb-true _ _ c.in_ok-index.ensures.limits.within.1) c.index-items-index.is)

pub returns-clause-state : goal.returns-clause-state
returns-clause-state g c = c.random_range.ensures.state

pub returns-clause-refusal : goal.returns-clause-refusal
returns-clause-refusal g c = λ _. tt

pub returns-clause-words : goal.returns-clause-words
returns-clause-words g c = c.random_range.ensures.limits.words

pub returns-in_err-index-clause-state : goal.returns-in_err-index-clause-state
returns-in_err-index-clause-state g c = c.random_range.ensures.state

pub returns-in_err-index-clause-words : goal.returns-in_err-index-clause-words
returns-in_err-index-clause-words g c = c.random_range.ensures.limits.words
