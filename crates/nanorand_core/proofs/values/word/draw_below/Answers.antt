use Rattle.std.proofs.Common.{ℕ, ◌≡◌, ◌%◌, ◌^◌, ◌<◌, Some, false, nat_lt, refl, sym, ◌∙◌, arith}
use Rattle.std.proofs.lemmas.Nat.{one_shl}
use Rattle.nanorand_core.specs.values.Runs.{named}
use Rattle.nanorand_core.specs.values.Draws.{word_limit, after_limit, after_word}
use Rattle.nanorand_core.specs.values.Draws.{next_word as word_of}
use Rattle.nanorand_core.proofs.lemmas.ranges.RunLemmas.{names-itself, judged, named-judged, judged-low, judged-past, judged-is_some}
use Rattle.nanorand_core.proofs.lemmas.ranges.DrawLemmas.{Ended, first_word, next_word, last_word, counted_words}
use Rattle.nanorand_core.proofs.values.word.draw_below.Invariants.{limit}
use Rattle.nanorand_core.proofs.values.word.draw_below.Given as Given
use Rattle.nanorand_core.proofs.values.word.draw_below.Goals as goal

-- if there are as many numbers as words, the first word names itself
whole : (g : Given.Over) (c : goal.Then-size-bits g) → named c.args.bits c.args.size c.draw_word-first.result ≡ Some c.draw_word-first.result
whole g c =
    let width : c.args.bits < 128 = omega (arith, c.requires.width) in
    let is = rw (one_shl c.args.bits 128 width) at c.if-size-bits.true in
    rw is (names-itself _ _ c.draw_word-first.ensures.fits)

pub returns-then-size-bits-clause-number : goal.returns-then-size-bits-clause-number
returns-then-size-bits-clause-number g c =
    (first_word _ _ word_limit _ _ _ _ _ (omega arith) c.draw_word-first.ensures.value (whole g c)).1.number

pub returns-then-size-bits-clause-state : goal.returns-then-size-bits-clause-state
returns-then-size-bits-clause-state g c =
    rw c.draw_word-first.ensures.state
    (first_word _ _ word_limit _ _ _ _ _ (omega arith) c.draw_word-first.ensures.value (whole g c)).1.state

-- a low half that is not below the limit accepts the first word
accepted : (g : Given.Over) (c : goal.After-high_of g) → named c.args.bits c.args.size c.draw_word-first.result ≡ Some c.high_of.result
accepted g c =
    let high : nat_lt (c.product_of-product.result % 2 ^ c.args.bits) c.most_rejected-limit.result ≡ false =
    sym c.low_is_below.ensures ∙ c.if-not-low_is_below.true in
    let most = c.most_rejected-limit.ensures.reaches in
    let is = judged-past c.args.bits c.args.size c.most_rejected-limit.result c.product_of-product.result most high in
    named-judged _ _ _ (omega arith) c.draw_word-first.ensures.fits ∙ (rw (c.high_of.ensures, ← c.product_of-product.ensures.value) is)

pub returns-then-not-low_is_below-clause-number : goal.returns-then-not-low_is_below-clause-number
returns-then-not-low_is_below-clause-number g c =
    (first_word _ _ word_limit _ _ _ _ _ (omega arith) c.draw_word-first.ensures.value (accepted g c)).1.number

pub returns-then-not-low_is_below-clause-state : goal.returns-then-not-low_is_below-clause-state
returns-then-not-low_is_below-clause-state g c =
    rw c.draw_word-first.ensures.state
    (first_word _ _ word_limit _ _ _ _ _ (omega arith) c.draw_word-first.ensures.value (accepted g c)).1.state

pub returns-then-not-low_is_below-clause-words : goal.returns-then-not-low_is_below-clause-words
returns-then-not-low_is_below-clause-words g c =
    counted_words _ _ _ _ _ _ _ (returns-then-not-low_is_below-clause-state g c)

pub others-init : goal.others-init
others-init g c =
    let is : named c.args.bits c.args.size c.draw_word-first.result ≡ judged c.args.bits c.args.size c.product_of-product.result =
    rw c.product_of-product.ensures.value (named-judged _ _ _ (omega arith) c.draw_word-first.ensures.fits) in
    rw c.draw_word-first.ensures.state (first_word _ _ limit _ _ _ _ _ (omega arith) c.draw_word-first.ensures.value is)

pub others-preserved : goal.others-preserved
others-preserved g c =
    let is : named c.args.bits c.args.size c.draw_word-word.result ≡ judged c.args.bits c.args.size c.product_of-product-in-others.result =
    rw c.product_of-product-in-others.ensures.value (named-judged _ _ _ (omega arith) c.draw_word-word.ensures.fits) in
    let test = rw (c.low_is_below-in-others.ensures, c.rejected-rejects.ensures) at c.others-test.true in
    rw c.draw_word-word.ensures.state
    (next_word _ _ _ _ _ _ (judged c.args.bits c.args.size c.others.product) _ c.others.drawn _ c.others.rng _ c.others.invariant
    (judged-is_some c.args.bits c.args.size c.others.product) test c.draw_word-word.ensures.value is)

-- the draw is over
abbrev Over : (g : Given.Over) → g.row.G.Denot → ℕ → ℕ → ℕ → g.row.G.Denot → Type 0
Over g start bits size product now =
    Ended (word_of g.G.Rng.requests bits) (after_word g.G.Rng.requests bits) word_limit bits size start (judged bits size product) now

refused : (g : Given.Over) (c : goal.Then-low_is_below g) → Over g c.args.rng.now c.args.bits c.args.size c.others.product c.others.rng
refused g c =
    let test = rw (c.low_is_below-in-others.ensures, c.rejected-rejects.ensures) at c.others-test.false in
    last_word _ _ _ _ _ _ _ c.others.drawn c.others.rng _ c.others.invariant (judged-is_some c.args.bits c.args.size c.others.product) test

found : (g : Given.Over) (c : goal.After-high_of-2 g) → Over g c.args.rng.now c.args.bits c.args.size c.others.product c.others.rng
found g c =
    let test = rw (c.low_is_below-in-others.ensures, c.rejected-rejects.ensures) at c.others-test.false in
    last_word _ _ _ _ _ _ _ c.others.drawn c.others.rng _ c.others.invariant (judged-is_some c.args.bits c.args.size c.others.product) test

pub returns-then-low_is_below-clause-number : goal.returns-then-low_is_below-clause-number
returns-then-low_is_below-clause-number g c =
    let low = rw c.rejected-rejects.ensures at (sym c.low_is_below-2.ensures ∙ c.if-low_is_below.true) in
    sym (judged-low c.args.bits c.args.size c.others.product low) ∙ (refused g c).number

pub returns-then-low_is_below-clause-state : goal.returns-then-low_is_below-clause-state
returns-then-low_is_below-clause-state g c = (refused g c).state

pub returns-then-low_is_below-clause-exhausted : goal.returns-then-low_is_below-clause-exhausted
unfolding after_limit
returns-then-low_is_below-clause-exhausted g c =
    let low = rw c.rejected-rejects.ensures at (sym c.low_is_below-2.ensures ∙ c.if-low_is_below.true) in
    rw (judged-low c.args.bits c.args.size c.others.product low) at (refused g c).exhausted

pub returns-clause-words : goal.returns-clause-words
returns-clause-words g c = counted_words _ _ _ _ _ _ _ (found g c).state

pub returns-clause-number : goal.returns-clause-number
returns-clause-number g c =
    let high = rw c.rejected-rejects.ensures at (sym c.low_is_below-2.ensures ∙ c.if-low_is_below.false) in
    let is : judged c.args.bits c.args.size c.others.product ≡ Some c.high_of-2.result = rw (c.high_of-2.ensures, high) refl in
    sym is ∙ (found g c).number

pub returns-clause-state : goal.returns-clause-state
returns-clause-state g c = (found g c).state
