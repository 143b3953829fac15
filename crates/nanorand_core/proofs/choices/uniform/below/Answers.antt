use Rattle.std.proofs.Common.{◌≡◌, ℕ, ◌-◌, ◌^◌, ◌≤◌, Result, Ok, Err, length, refl, sym, ◌∙◌, ap, arith, Bool, true}
use Rattle.std.specs.Result.{IfOk, IfErr, IsOk}
use Rattle.std.specs.declared.ops.Bound.TheVariants.{Excluded, Unbounded}
use Rattle.std.proofs.lemmas.Bool.{le-leb}
use Rattle.std.proofs.lemmas.Nat.{pow_pos}
use Rattle.std.proofs.lemmas.Nat.Gcd.{dvd_of_mod-eq-zero, le_of_dvd}
use Rattle.nanorand_core.specs.values.Range.{Admits}
use Rattle.nanorand_core.specs.values.Runs.{rejected}
use Rattle.nanorand_core.specs.declared.values.range.RangeError.{RangeError}
use Rattle.nanorand_core.specs.declared.values.range.RangeError.TheVariants.{Empty, Exhausted}
use Rattle.nanorand_core.proofs.lemmas.ranges.RangeLemmas.{range-places, range-count}
use Rattle.nanorand_core.proofs.lemmas.ranges.RunLemmas.{power-divides}
use Rattle.nanorand_core.proofs.choices.uniform.below.Goals as goal

-- a result that is neither the error `Empty` nor the error `Exhausted` is `Ok`
unrefused : {T : Type 0} (result : Result T RangeError) → IfErr result (λ refusal. refusal ≡ Empty)
    → IfErr result (λ refusal. refusal ≡ Exhausted) → IsOk result
unrefused (Ok x) empty exhausted = refl
unrefused (Err refusal) empty exhausted = let clash = sym empty ∙ exhausted in cc

pub returns-clause-divisor : goal.returns-clause-divisor
returns-clause-divisor g c size is some divides =
    let bits = g.T.Number.BITS in
    let fits : size ≤ 2 ^ bits = le_of_dvd (pow_pos bits) (dvd_of_mod-eq-zero size divides) in
    let numbers = range-places g.T.Number.le g.T.Number.lt bits g.T.Number.number Unbounded (Excluded c.args.n) 0 size
    (λ j. sym (le-leb 0 j (omega arith))) (λ j in_type. rw is (g.met.T.Number.lt_rises j size)) fits some in
    let count : length _ ≡ size = range-count _ 0 _ _ numbers ∙ omega arith in
    unrefused _ (c.draw_number.ensures.divisor (ap (λ (n : ℕ). rejected bits n) count ∙ divides)) (c.draw_number.ensures.refusal c.requires)

pub returns-clause-power : goal.returns-clause-power
returns-clause-power g c k low is =
    returns-clause-divisor g c (2 ^ k) is (pow_pos k) (power-divides g.T.Number.BITS k (omega (arith, low)))

-- a number that both bounds admit is below the upper one
admitted-below : {T : Type 0} (le lt : T → T → Bool) (n : T) (result : Result T RangeError)
    → IfOk result (Admits le lt Unbounded (Excluded n)) → IfOk result (λ number. lt number n ≡ true)
admitted-below le lt n (Ok number) admitted = admitted.1
admitted-below le lt n (Err refusal) admitted = tt

pub returns-clause-below : goal.returns-clause-below
returns-clause-below g c = admitted-below g.T.Number.le g.T.Number.lt c.args.n _ c.draw_number.ensures.within

pub returns-clause-value : goal.returns-clause-value
returns-clause-value g c = c.draw_number.ensures.value

pub returns-clause-state : goal.returns-clause-state
returns-clause-state g c = c.draw_number.ensures.state

pub returns-clause-refusal : goal.returns-clause-refusal
returns-clause-refusal g c = c.draw_number.ensures.refusal c.requires

pub returns-clause-words : goal.returns-clause-words
returns-clause-words g c = c.draw_number.ensures.words

pub returns-clause-unrefused : goal.returns-clause-unrefused
returns-clause-unrefused g c none =
    let size : g.T.Number.rank c.args.n - 0 ≡ g.T.Number.rank c.args.n = omega arith in
    c.draw_number.ensures.unrefused c.requires (ap (λ (n : ℕ). rejected g.T.Number.BITS n) size ∙ none)
