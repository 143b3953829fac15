use Rattle.std.proofs.Common.{◌≡◌, ℕ, suc, ◌+◌, ◌-◌, ◌*◌, ◌/◌, ◌<◌, drop, length, Ok, Err, refl, sym, ◌∙◌, ap, arith}
use Rattle.std.proofs.Math.Nat.{div-zero}
use Rattle.std.proofs.lemmas.Bool.{ltb-true}
use Rattle.nanorand_core.specs.shuffles.Shuffles.{partner_drawn}
use Rattle.nanorand_core.specs.declared.values.range.RangeError.TheVariants.{Exhausted}
use Rattle.nanorand_calls.specs.Items.{items_of}
use Rattle.nanorand_calls.specs.Status.{status}
use Rattle.nanorand_calls.proofs.ItemLemmas.{length-items_of}
use Rattle.nanorand_calls.proofs.UnderWayLemmas.{Ended, under_way-start, under_way-step, ended-early, ended, ended-at, ended-whole}
use Rattle.nanorand_calls.proofs.calls.shuffle_items.Given as Given
use Rattle.nanorand_calls.proofs.calls.shuffle_items.Goals as goal

pub loop-place-init : goal.loop-place-init
loop-place-init g c =
    let size = c.args.size in
    let count : ℕ = length c.args.items.now / size in
    let all : count - 0 ≡ count = omega arith in
    record {
      under_way = rw all (under_way-start g.G.Rng.requests count (items_of size c.args.items.now) c.args.rng.now);
      rest = refl {a = drop (length c.args.items.now / c.args.size * c.args.size) c.args.items.now};
    }

pub loop-place-preserved : goal.loop-place-preserved
unfolding partner_drawn
loop-place-preserved g c =
    let size = c.args.size in
    let count : ℕ = length c.args.items.now / size in
    let items = length-items_of size c.args.items.now in
    let left : count - c.loop-place.place ≡ suc (count - (c.loop-place.place + 1)) = omega arith in
    let under_way = rw left at c.loop-place.invariant.under_way in
    let words = c.draw_number.ensures.words in
    let below : c.in-Ok.partner < count = ltb-true c.in-Ok.partner count c.in-Ok.ensures.within.1 in
    let rest = rw c.loop-place.auto.items at c.swap_items.ensures.rest in
    record {
      under_way = rw (c.draw_number.ensures.state, c.swap_items.ensures.items)
          (under_way-step under_way (sym c.in-Ok.ensures.value) (words.0, words.1, sym c.draw_number.ensures.state ∙ words.2)
          (omega (arith, items)) (omega (arith, items, below)));
      rest = rest ∙ c.loop-place.invariant.rest;
    }

-- No item: the shuffle is over.
nothing : (g : Given.Over) (c : goal.Then-size-eq0 g)
    → Ended g.G.Rng.requests (length (items_of c.args.size c.args.items.now)) (items_of c.args.size c.args.items.now) c.args.rng.now (Ok tt)
    c.args.rng.now (items_of c.args.size c.args.items.now)
nothing g c =
    let items = items_of c.args.size c.args.items.now in
    let none : length items ≡ 0 = length-items_of c.args.size c.args.items.now ∙ ap (λ (n : ℕ). length c.args.items.now / n) c.if-size-eq0.true ∙ div-zero (length c.args.items.now) in
    ended-whole none (ended (under_way-start g.G.Rng.requests 0 items c.args.rng.now))

pub returns-then-size-eq0-clause-status : goal.returns-then-size-eq0-clause-status
returns-then-size-eq0-clause-status g c = ap status (nothing g c).answered

pub returns-then-size-eq0-clause-items : goal.returns-then-size-eq0-clause-items
returns-then-size-eq0-clause-items g c = (nothing g c).made

pub returns-then-size-eq0-clause-state : goal.returns-then-size-eq0-clause-state
returns-then-size-eq0-clause-state g c = (nothing g c).left

-- The draw was exhausted, which ends the shuffle.
early : (g : Given.Over) (c : goal.In-Err g)
    → Ended g.G.Rng.requests (length (items_of c.args.size c.args.items.now)) (items_of c.args.size c.args.items.now) c.args.rng.now
    (Err Exhausted) c.draw_number.new.rng (items_of c.args.size c.loop-place.items)
unfolding partner_drawn
early g c =
    let count : ℕ = length c.args.items.now / c.args.size in
    let items = length-items_of c.args.size c.args.items.now in
    let left : count - c.loop-place.place ≡ suc (count - (c.loop-place.place + 1)) = omega arith in
    let under_way = rw left at c.loop-place.invariant.under_way in
    let words = c.draw_number.ensures.words in
    let reason : c.in-Err.field-0 ≡ Exhausted = c.in-Err.ensures.refusal (omega arith) in
    rw c.draw_number.ensures.state
    (ended-whole items
    (ended-early under_way (sym (rw reason at c.in-Err.ensures.value)) (words.0, words.1, sym c.draw_number.ensures.state ∙ words.2)
    (omega arith)))

pub returns-in-Err-clause-status : goal.returns-in-Err-clause-status
returns-in-Err-clause-status g c = ap status (early g c).answered

pub returns-in-Err-clause-items : goal.returns-in-Err-clause-items
returns-in-Err-clause-items g c = (early g c).made

pub returns-in-Err-clause-state : goal.returns-in-Err-clause-state
returns-in-Err-clause-state g c = (early g c).left

pub returns-in-Err-clause-words : goal.returns-in-Err-clause-words
returns-in-Err-clause-words g c = (early g c).drew

pub returns-clause-status : goal.returns-clause-status
returns-clause-status g c =
    ap status (ended-at c.loop-place.invariant.under_way (omega arith) (length-items_of c.args.size c.args.items.now)).answered

pub returns-clause-items : goal.returns-clause-items
returns-clause-items g c =
    (ended-at c.loop-place.invariant.under_way (omega arith) (length-items_of c.args.size c.args.items.now)).made

pub returns-clause-state : goal.returns-clause-state
returns-clause-state g c =
    (ended-at c.loop-place.invariant.under_way (omega arith) (length-items_of c.args.size c.args.items.now)).left

pub returns-clause-words : goal.returns-clause-words
returns-clause-words g c =
    (ended-at c.loop-place.invariant.under_way (omega arith) (length-items_of c.args.size c.args.items.now)).drew
