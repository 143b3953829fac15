use Rattle.std.proofs.Common.{◌≡◌, ℕ, ◌≤◌, ◌++◌, [], ◌∷◌, length, set, Ok, false, true, inl, inr, refl, sym, ap, ◌∙◌, arith, length-append}
use Rattle.std.proofs.iter.runs.Made.{run, to_item, to_end, Fits-at}
use Rattle.std.proofs.lemmas.Bool.{cases_lt}
use Rattle.std.proofs.lemmas.List.{take_all}
use Rattle.std.proofs.lemmas.Result.{err_from_is_err_and}
use Rattle.nanorand_core.proofs.lemmas.ReservoirLemmas.{unwrapped, members, filled_pass, holds-nothing, holds-filled, holds-replaced, pass-refused, words-refused, long-refused, held-longer, below-longer}
use Rattle.nanorand_core.proofs.samples.reservoir.Goals as goal

pub loop-item-init : goal.loop-item-init
loop-item-init g c = rw c.into_iter-item-iterator.ensures.into_iter_gives
    (c.requires.can, c.requires.ends, omega arith, refl, ([], holds-nothing g.G.Rng.requests c.args.rng.now c.args.chosen.now))

pub returns-in_err-slot : goal.returns-in_err-slot
returns-in_err-slot g c =
    let requests = g.G.Rng.requests in
    let start = c.args.rng.now in
    let old = c.args.chosen.now in
    let steps = g.I.Iterator.next_gives in
    let seen = c.loop-item.yielded in
    let item = c.in-Some.item in
    let numbers = c.loop-item.invariant.4.0 in
    let h = c.loop-item.invariant.4.1 in
    let led = rw c.into_iter-item-iterator.ensures.into_iter_gives at c.loop-item.yielded_by in
    let part = run steps c.args.items (seen ++ item ∷ []) false
    (to_item steps c.args.items c.next.new.self seen item (c.loop-item.item-iterator, led, c.in-Some.ensures.steps)) in
    let kept = err_from_is_err_and c.from_residual.result c.from_residual.ensures.1 in
    let refused = c.in_err-slot.ensures.refusal in
    let full : length old ≤ length seen = omega arith in
    let draw = rw c.loop-item.invariant.3 at (c.in_err-slot.ensures.later refused.0) in
    let ended = pass-refused requests start old item h full _ draw.0 _ draw.1 in
    let held = held-longer requests start old item h in
    let below = below-longer requests start old item h in
    let long = long-refused requests start old item h full in
    rw (kept.1, kept.2) (record {
      sample = (part, refl, rw ended (refl, held, refl, refl, refl));
      filled = tt;
      all = λ test each. tt;
      refused = (part, refl, rw (take_all (length numbers) c.loop-item.chosen (omega (arith, h.long, full))) at (members _ _ _ numbers _ below refl held));
      apart = (part, refl, (numbers, held, long, below, h.apart, refl));
      refusal = refused.1;
      words = (part, refl, words-refused requests start old item h full _ c.slot_for.ensures.words);
    })

pub overflow_add-taken : goal.overflow_add-taken
overflow_add-taken g c =
    let led = rw c.into_iter-item-iterator.ensures.into_iter_gives at c.loop-item.yielded_by in
    let on = c.in-Some.ensures.goes.on c.loop-item.invariant.1 in
    let fits = Fits-at g.I.Iterator.next_gives g.I.Iterator.remaining 0 c.args.items c.loop-item.yielded c.loop-item.item-iterator c.in-Some.item c.next.new.self
    c.requires.fits led c.in-Some.ensures.steps (omega arith) in
    omega arith

pub loop-item-preserved : goal.loop-item-preserved
loop-item-preserved g c =
    let requests = g.G.Rng.requests in
    let start = c.args.rng.now in
    let old = c.args.chosen.now in
    let seen = c.loop-item.yielded in
    let item = c.in-Some.item in
    let numbers = c.loop-item.invariant.4.0 in
    let h = c.loop-item.invariant.4.1 in
    let on = c.in-Some.ensures.goes.on c.loop-item.invariant.1 in
    let longer = length-append seen (item ∷ []) in (
      on.0,
      on.1,
      omega arith,
      omega arith,
      elim (cases_lt (length seen) (length old)) [
        | inl room ↦
            let first = c.in_ok-slot.ensures.first (omega arith) in
            let same : c.in_ok-slot.slot ≡ length seen = unwrapped first.0 ∙ c.loop-item.invariant.3 in
            rw (c.place_at.ensures, same, first.1)
            (numbers ++ length seen ∷ [], holds-filled requests start old item h room)
        | inr full ↦
            let draw = rw c.loop-item.invariant.3 at (c.in_ok-slot.ensures.later (omega arith)) in
            rw c.place_at.ensures (
              set numbers c.in_ok-slot.slot (length seen),
              holds-replaced requests start old item h
                  full c.in_ok-slot.slot draw.0 _ draw.1 c.slot_for.ensures.words,
            )
      ],
    )

pub returns : goal.returns
returns g c =
    let steps = g.I.Iterator.next_gives in
    let seen = c.loop-item.yielded in
    let numbers = c.loop-item.invariant.4.0 in
    let h = c.loop-item.invariant.4.1 in
    let led = rw c.into_iter-item-iterator.ensures.into_iter_gives at c.loop-item.yielded_by in
    let all = run steps c.args.items seen true
    (to_end steps c.args.items seen (c.next.new.self, (c.loop-item.item-iterator, led, c.in-None.ensures.steps))) in
    let answer : c.min.result ≡ length numbers = omega (arith, h.long, c.min.ensures) in
    let held = members _ _ _ numbers _ h.below (sym answer) h.held in
    record {
      sample = (all, refl, rw h.pass (ap (λ (n : ℕ). Ok n) answer, h.held, refl, refl, refl));
      filled = (all, refl, refl, (answer ∙ h.long, held));
      all = λ test each. filled_pass seen _ test (each all all.seen refl) held;
      refused = tt;
      apart = (all, refl, (numbers, h.held, h.long, h.below, h.apart, refl));
      refusal = tt;
      words = (all, refl, h.words);
    }
