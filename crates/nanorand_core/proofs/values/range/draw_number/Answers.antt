use Rattle.std.proofs.Common.{◌+◌, ap, ◌∙◌, Ok, arith, ℕ, sym, refl}
use Rattle.std.proofs.lemmas.Bool.{leb-true, ltb-true}
use Rattle.nanorand_core.proofs.lemmas.ranges.RangeLemmas.{range-empty, range-places, range-count, value-empty}
use Rattle.nanorand_core.proofs.lemmas.ranges.RangeLemmas.{left-empty, value-number, value-exhausted, left-drawn}
use Rattle.nanorand_core.proofs.values.range.draw_number.Goals as goal

pub returns-then-end-first-clause-value : goal.returns-then-end-first-clause-value
returns-then-end-first-clause-value g c =
    value-empty _ _ _ _ _
    (range-empty g.T.Number.le g.T.Number.lt g.T.Number.BITS g.T.Number.number c.args.low c.args.high _ _
    c.first_place-first.ensures.admits c.end_place-end.ensures.admits c.end_place-end.ensures.within c.if-end-first.true)

pub returns-then-end-first-clause-state : goal.returns-then-end-first-clause-state
returns-then-end-first-clause-state g c =
    left-empty _ _ _ _ _
    (range-empty g.T.Number.le g.T.Number.lt g.T.Number.BITS g.T.Number.number c.args.low c.args.high _ _
    c.first_place-first.ensures.admits c.end_place-end.ensures.admits c.end_place-end.ensures.within c.if-end-first.true)

pub returns-then-end-first-clause-some : goal.returns-then-end-first-clause-some
returns-then-end-first-clause-some g c k fits low high =
    let first = leb-true c.first_place-first.result k (sym (c.first_place-first.ensures.admits k) ∙ low) in
    let end = ltb-true k c.end_place-end.result (sym (c.end_place-end.ensures.admits k fits) ∙ high) in
    absurd (omega (arith, first, end))

pub returns-in-Some-clause-value : goal.returns-in-Some-clause-value
returns-in-Some-clause-value g c =
    let is = range-places g.T.Number.le g.T.Number.lt g.T.Number.BITS g.T.Number.number c.args.low c.args.high _ _
    c.first_place-first.ensures.admits c.end_place-end.ensures.admits c.end_place-end.ensures.within c.if-end-first.false in
    let place = c.at_place.ensures ∙ ap (λ (k : ℕ). g.T.Number.number (c.first_place-first.result + k)) c.from.ensures in
    ap Ok place
    ∙ value-number _ _ _ _ _ _ (omega arith) _ is _ c.in-Some.k c.in-Some.ensures.below (rw c.BITS.ensures at c.in-Some.ensures.number)

pub returns-in-Some-clause-state : goal.returns-in-Some-clause-state
returns-in-Some-clause-state g c =
    let is = range-places g.T.Number.le g.T.Number.lt g.T.Number.BITS g.T.Number.number c.args.low c.args.high _ _
    c.first_place-first.ensures.admits c.end_place-end.ensures.admits c.end_place-end.ensures.within c.if-end-first.false in
    left-drawn _ _ _ _ _ _ (omega arith) _ is _ _ (rw c.BITS.ensures at c.draw_below.ensures.state)

pub returns-in-None-clause-value : goal.returns-in-None-clause-value
returns-in-None-clause-value g c =
    let is = range-places g.T.Number.le g.T.Number.lt g.T.Number.BITS g.T.Number.number c.args.low c.args.high _ _
    c.first_place-first.ensures.admits c.end_place-end.ensures.admits c.end_place-end.ensures.within c.if-end-first.false in
    value-exhausted _ _ _ _ _ _ (omega arith) _ is _ (rw c.BITS.ensures at c.in-None.ensures.number)

pub returns-in-None-clause-state : goal.returns-in-None-clause-state
returns-in-None-clause-state g c =
    let is = range-places g.T.Number.le g.T.Number.lt g.T.Number.BITS g.T.Number.number c.args.low c.args.high _ _
    c.first_place-first.ensures.admits c.end_place-end.ensures.admits c.end_place-end.ensures.within c.if-end-first.false in
    left-drawn _ _ _ _ _ _ (omega arith) _ is _ _ (rw c.BITS.ensures at c.draw_below.ensures.state)

pub returns-then-end-first-clause-refusal : goal.returns-then-end-first-clause-refusal
returns-then-end-first-clause-refusal g c has =
    let place = g.met.T.Number.has_place c.args.low c.args.high c.first_place-first.ensures.number c.end_place-end.ensures.number has in
    returns-then-end-first-clause-some g c place.0 place.1 place.2.0 place.2.1

pub returns-in-None-clause-divisor : goal.returns-in-None-clause-divisor
returns-in-None-clause-divisor g c none =
    let is = range-places g.T.Number.le g.T.Number.lt g.T.Number.BITS g.T.Number.number c.args.low c.args.high _ _
    c.first_place-first.ensures.admits c.end_place-end.ensures.admits c.end_place-end.ensures.within c.if-end-first.false in
    let count = range-count _ _ _ _ is in
    let found = c.in-None.ensures.divisor (rw (c.BITS.ensures, ← count) none) in cc

pub returns-then-end-first-clause-words : goal.returns-then-end-first-clause-words
returns-then-end-first-clause-words g c = (0, omega arith, refl)

pub returns-then-end-first-clause-empty : goal.returns-then-end-first-clause-empty
returns-then-end-first-clause-empty g c = λ _. refl

pub draw_below-requires-clause-some : goal.draw_below-requires-clause-some
draw_below-requires-clause-some g c = (let less = c.if-end-first.false in omega arith)

pub returns-in-Some-clause-exhausted : goal.returns-in-Some-clause-exhausted
returns-in-Some-clause-exhausted g c = λ same. cc

pub returns-in-Some-clause-refusal : goal.returns-in-Some-clause-refusal
returns-in-Some-clause-refusal g c = λ _. tt

pub returns-in-Some-clause-divisor : goal.returns-in-Some-clause-divisor
returns-in-Some-clause-divisor g c = λ _. tt

pub returns-in-Some-clause-words : goal.returns-in-Some-clause-words
returns-in-Some-clause-words g c = rw (← c.BITS.ensures) c.draw_below.ensures.words

pub returns-in-None-clause-words : goal.returns-in-None-clause-words
returns-in-None-clause-words g c = rw (← c.BITS.ensures) c.draw_below.ensures.words

pub returns-in-None-clause-refusal : goal.returns-in-None-clause-refusal
returns-in-None-clause-refusal g c = λ _. refl

pub returns-in-None-clause-some : goal.returns-in-None-clause-some
returns-in-None-clause-some g c = λ k fits low high. refl

pub returns-in-None-clause-empty : goal.returns-in-None-clause-empty
returns-in-None-clause-empty g c = λ same. cc

pub returns-in-Some-clause-empty : goal.returns-in-Some-clause-empty
returns-in-Some-clause-empty g c = λ same. cc

pub returns-in-Some-clause-some : goal.returns-in-Some-clause-some
returns-in-Some-clause-some g c = λ k fits low high. tt

pub returns-in-None-clause-exhausted : goal.returns-in-None-clause-exhausted
returns-in-None-clause-exhausted g c = λ _. rw (← c.BITS.ensures) c.in-None.ensures.exhausted

pub returns-then-end-first-clause-unrefused : goal.returns-then-end-first-clause-unrefused
returns-then-end-first-clause-unrefused g c has none =
    let clash = returns-then-end-first-clause-refusal g c has in absurd cc

pub returns-in-Some-clause-unrefused : goal.returns-in-Some-clause-unrefused
returns-in-Some-clause-unrefused g c = λ has none. refl

pub returns-in-None-clause-unrefused : goal.returns-in-None-clause-unrefused
returns-in-None-clause-unrefused g c has none =
    let found = c.in-None.ensures.divisor (rw (c.BITS.ensures, c.first_place-first.ensures.rank, c.end_place-end.ensures.rank) none) in cc
