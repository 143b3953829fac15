use Rattle.std.proofs.Common.{ℕ, List, Option, Err, ◌≡◌, ◌-◌, ◌<◌, length, sym, ap, ◌∙◌, refl, arith}
use Rattle.nanorand_core.specs.values.Draws.{after_word}
use Rattle.nanorand_core.specs.values.Draws.{next_word as word_of}
use Rattle.nanorand_core.specs.values.Values.{number_of}
use Rattle.nanorand_core.specs.shuffles.Shuffles.{from_itself}
use Rattle.nanorand_core.specs.declared.values.range.RangeError.TheVariants.{Exhausted}
use Rattle.nanorand_core.proofs.lemmas.ranges.DrawLemmas.{Ended, first_word, first_decides, next_word, last_word}
use Rattle.nanorand_core.proofs.lemmas.shuffles.PartnerLemmas.{partner-number, partner-exhausted, partner-state}
use Rattle.nanorand_core.proofs.lemmas.shuffles.ShuffleLemmas.{Shuffling, Shuffled, shuffling-start, shuffling-step, refused, done, count-done, choices-valid, partial-words}
use Rattle.nanorand_core.proofs.lemmas.ValueLemmas.{number_of_8}
use Rattle.nanorand_core.proofs.rand.Rng.shuffle.Invariants.{limit}
use Rattle.nanorand_core.proofs.rand.Rng.shuffle.Given as Given
use Rattle.nanorand_core.proofs.rand.Rng.shuffle.Goals as goal
use Rattle.nanorand_core.proofs.rand.Rng.shuffle.Goals.{then-is_none+else-others-test, else-is_none}

-- After the draw: the steps so far led to a state, and from it the draw gave this result and left
-- this state.
abbrev Over : (g : Given.Over) → List g.row.T.Denot → g.row.Self.Denot → ℕ → List g.row.T.Denot → Option ℕ → g.row.Self.Denot → Type 0
Over g all from place target ahead now = record {
  start : g.row.Self.Denot;
  so_far : Shuffling g.Self.Rng.requests from_itself (length all) all from place start target;
  draw : Ended (word_of g.Self.Rng.requests 64) (after_word g.Self.Rng.requests 64) limit 64 (length all - place) start ahead now;
}

pub loop-place-init : goal.loop-place-init
loop-place-init g c =
    shuffling-start g.Self.Rng.requests from_itself (length c.args.target.now) c.args.target.now c.args.self.now (omega arith)

pub others-init : goal.others-init
others-init g c =
    let word : c.from_le_bytes.result ≡ number_of (g.Self.Rng.requests.bytes c.loop-place.self 8) =
    c.from_le_bytes.ensures ∙ number_of_8 c.fill_bytes.new.buffer (omega arith) ∙ ap number_of c.fill_bytes.ensures.bytes in
    record {
      start = c.loop-place.self;
      so_far = c.loop-place.invariant;
      draw = rw c.fill_bytes.ensures.state (first_word _ _ limit _ _ _ _ _ (omega arith) word (sym c.pick_below-ahead.ensures));
    }

pub others-preserved : goal.others-preserved
others-preserved g c =
    let before = c.others.invariant in
    let word : c.from_le_bytes-in-others.result ≡ number_of (g.Self.Rng.requests.bytes c.others.self 8) =
    c.from_le_bytes-in-others.ensures ∙ number_of_8 c.fill_bytes-in-others.new.buffer (omega arith) ∙ ap number_of c.fill_bytes-in-others.ensures.bytes in
    record {
      start = before.start;
      so_far = before.so_far;
      draw = rw c.fill_bytes-in-others.ensures.state
          (next_word _ _ _ _ _ _ c.others.ahead _ c.others.drawn _ c.others.self _ before.draw c.is_none-in-others.ensures c.others-test.true
          word (sym c.pick_counted-ahead.ensures));
    }

-- The draw that found no number.
none_over : (g : Given.Over) (c : goal.In-None g)
    → Over g c.args.target.now c.args.self.now c.loop-place.place c.loop-place.target c.if-is_none.ahead c.if-is_none.self
none_over g c =
    elim c.if-is_none.branch [
      | then-is_none+else-others-test w ↦
          let before = w.others.invariant in
          rw (w.ahead-is, w.self-is) (record {
            start = before.start;
            so_far = before.so_far;
            draw = last_word _ _ _ _ _ _ w.others.ahead w.others.drawn w.others.self _ before.draw w.is_none-in-others.ensures w.others-test.false;
          })
      | else-is_none w ↦
          let word : c.from_le_bytes.result ≡ number_of (g.Self.Rng.requests.bytes c.loop-place.self 8) =
          c.from_le_bytes.ensures ∙ number_of_8 c.fill_bytes.new.buffer (omega arith) ∙ ap number_of c.fill_bytes.ensures.bytes in
          rw (w.ahead-is, w.self-is, c.fill_bytes.ensures.state) (record {
            start = c.loop-place.self;
            so_far = c.loop-place.invariant;
            draw = first_decides _ _ limit _ _ _ c.pick_below-ahead.result _ _ (omega arith) word
                (sym c.pick_below-ahead.ensures) c.is_none.ensures w.if-is_none.false;
          })
    ]

-- The shuffle ends there.
ends : (g : Given.Over) (c : goal.In-None g)
    → Shuffled g.Self.Rng.requests from_itself (length c.args.target.now) c.args.target.now c.args.self.now (Err Exhausted)
    c.if-is_none.self c.loop-place.target
ends g c =
    let over = none_over g c in
    let partner = partner-exhausted g.Self.Rng.requests (length c.args.target.now) c.loop-place.place over.start
    c.loop-place-test.true (omega arith) (sym c.in-None.is ∙ over.draw.number) in
    let state = partner-state g.Self.Rng.requests (length c.args.target.now) c.loop-place.place over.start
    c.loop-place-test.true (omega arith) c.if-is_none.self over.draw.state in
    rw state (refused over.so_far c.loop-place-test.true partner (omega arith) (omega arith))

pub returns-in-None-clause-answer : goal.returns-in-None-clause-answer
returns-in-None-clause-answer g c = (ends g c).answered

pub returns-in-None-clause-state : goal.returns-in-None-clause-state
returns-in-None-clause-state g c = (ends g c).left

pub returns-in-None-clause-words : goal.returns-in-None-clause-words
returns-in-None-clause-words g c =
    let words = partial-words g.Self.Rng.requests from_itself (length c.args.target.now) (length c.args.target.now) c.args.self.now in
    (words.0, words.1, (ends g c).left ∙ words.2)

pub returns-in-None-clause-items : goal.returns-in-None-clause-items
returns-in-None-clause-items g c = (ends g c).made

pub returns-in-None-clause-arrangement : goal.returns-in-None-clause-arrangement
returns-in-None-clause-arrangement g c = (none_over g c).so_far.shuffled

pub returns-in-None-clause-refusal : goal.returns-in-None-clause-refusal
returns-in-None-clause-refusal g c = refl

pub returns-in-None-clause-whole : goal.returns-in-None-clause-whole
returns-in-None-clause-whole g c = tt

pub returns-in-None-clause-valid : goal.returns-in-None-clause-valid
returns-in-None-clause-valid g c = tt

some_over : (g : Given.Over) (c : goal.After-swap-arg-1 g)
    → Over g c.args.target.now c.args.self.now c.loop-place.place c.loop-place.target c.if-is_none.ahead c.if-is_none.self
some_over g c =
    elim c.if-is_none.branch [
      | then-is_none+else-others-test w ↦
          let before = w.others.invariant in
          rw (w.ahead-is, w.self-is) (record {
            start = before.start;
            so_far = before.so_far;
            draw = last_word _ _ _ _ _ _ w.others.ahead w.others.drawn w.others.self _ before.draw w.is_none-in-others.ensures w.others-test.false;
          })
      | else-is_none w ↦
          let word : c.from_le_bytes.result ≡ number_of (g.Self.Rng.requests.bytes c.loop-place.self 8) =
          c.from_le_bytes.ensures ∙ number_of_8 c.fill_bytes.new.buffer (omega arith) ∙ ap number_of c.fill_bytes.ensures.bytes in
          rw (w.ahead-is, w.self-is, c.fill_bytes.ensures.state) (record {
            start = c.loop-place.self;
            so_far = c.loop-place.invariant;
            draw = first_decides _ _ limit _ _ _ c.pick_below-ahead.result _ _ (omega arith) word
                (sym c.pick_below-ahead.ensures) c.is_none.ensures w.if-is_none.false;
          })
    ]

pub overflow_add-place : goal.overflow_add-place
overflow_add-place g c =
    let below : c.in-Some.ahead < length c.args.target.now - c.loop-place.place = rw c.in-Some.is at (some_over g c).draw.below in
    omega (arith, below)

pub swap-requires : goal.swap-requires
swap-requires g c =
    let below : c.in-Some.ahead < length c.args.target.now - c.loop-place.place = rw c.in-Some.is at (some_over g c).draw.below in
    (omega arith, omega (arith, below))

pub loop-place-preserved : goal.loop-place-preserved
loop-place-preserved g c =
    let over : Over g c.args.target.now c.args.self.now c.loop-place.place c.loop-place.target c.if-is_none.ahead c.if-is_none.self =
    elim c.if-is_none.branch [
      | then-is_none+else-others-test w ↦
          let before = w.others.invariant in
          rw (w.ahead-is, w.self-is) (record {
            start = before.start;
            so_far = before.so_far;
            draw = last_word _ _ _ _ _ _ w.others.ahead w.others.drawn w.others.self _ before.draw w.is_none-in-others.ensures w.others-test.false;
          })
      | else-is_none w ↦
          let word : c.from_le_bytes.result ≡ number_of (g.Self.Rng.requests.bytes c.loop-place.self 8) =
          c.from_le_bytes.ensures ∙ number_of_8 c.fill_bytes.new.buffer (omega arith) ∙ ap number_of c.fill_bytes.ensures.bytes in
          rw (w.ahead-is, w.self-is, c.fill_bytes.ensures.state) (record {
            start = c.loop-place.self;
            so_far = c.loop-place.invariant;
            draw = first_decides _ _ limit _ _ _ c.pick_below-ahead.result _ _ (omega arith) word
                (sym c.pick_below-ahead.ensures) c.is_none.ensures w.if-is_none.false;
          })
    ] in
    let below : c.in-Some.ahead < length c.args.target.now - c.loop-place.place = rw c.in-Some.is at over.draw.below in
    let partner = partner-number g.Self.Rng.requests (length c.args.target.now) c.loop-place.place over.start
    c.loop-place-test.true (omega arith) c.in-Some.ahead below (sym c.in-Some.is ∙ over.draw.number) in
    let state = partner-state g.Self.Rng.requests (length c.args.target.now) c.loop-place.place over.start
    c.loop-place-test.true (omega arith) c.if-is_none.self over.draw.state in
    rw (state, c.swap.ensures) (shuffling-step over.so_far c.loop-place-test.true partner)

pub returns : goal.returns
returns g c =
    let so_far = c.loop-place.invariant in
    let ended = done so_far (omega arith) in
    let size = count-done so_far (omega arith) ∙ omega arith in
    let words = partial-words g.Self.Rng.requests from_itself (length c.args.target.now) (length c.args.target.now) c.args.self.now in
    record {
      answer = ended.answered;
      refusal = ended.reason;
      items = ended.made;
      state = ended.left;
      arrangement = so_far.shuffled;
      whole = size;
      valid = choices-valid g.Self.Rng.requests (length c.args.target.now) c.args.self.now size;
      words = (words.0, words.1, ended.left ∙ words.2);
    }
