use Rattle.std.proofs.Common.{refl, sym, ◌∙◌, arith}
use Rattle.std.proofs.lemmas.Bool.{lt-ltb, le-ltb, ltb-true}
use Rattle.nanorand_core.proofs.choices.uniform.ratio.Goals as goal

pub returns-clause-truth : goal.returns-clause-truth
returns-clause-truth g c = let drawn = sym c.in_ok-number.was ∙ c.random_range.ensures.value in rw (← drawn) refl

pub returns-clause-always : goal.returns-clause-always
returns-clause-always g c = λ most. let below = ltb-true _ _ c.in_ok-number.ensures.limits.within.1 in
    lt-ltb _ _ (omega (arith, most, below))

pub returns-clause-never : goal.returns-clause-never
returns-clause-never g c = λ none. le-ltb _ _ (omega (arith, none))

pub returns-clause-state : goal.returns-clause-state
returns-clause-state g c = c.random_range.ensures.state

pub returns-clause-words : goal.returns-clause-words
returns-clause-words g c = c.random_range.ensures.limits.words
