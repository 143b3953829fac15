use Rattle.std.proofs.Common.{◌≡◌, ℕ, ◌-◌, ◌/◌, ◌^◌, ◌<◌, Some, sym, ◌∙◌, ap, arith}
use Rattle.std.proofs.Math.Nat.{div-le_self}
use Rattle.nanorand_core.specs.values.Runs.{named}
use Rattle.nanorand_core.specs.values.Draws.{word_limit, after_word, next_word}
use Rattle.nanorand_core.proofs.lemmas.ranges.RunLemmas.{named-power}
use Rattle.nanorand_core.proofs.lemmas.ranges.DrawLemmas.{Drawn, first_word}
use Rattle.nanorand_core.proofs.choices.uniform.bits.Given as Given
use Rattle.nanorand_core.proofs.choices.uniform.bits.Goals as goal

-- the word names the number's rank
names : (g : Given.Over) (c : goal.After-at_place g) → named g.T.Number.BITS (2 ^ c.args.count) c.draw_word-word.result ≡ Some (g.T.Number.rank c.at_place.result)
names g c =
    let bits = g.T.Number.BITS in
    let fits = rw c.BITS.ensures at c.draw_word-word.ensures.fits in
    let top : ℕ = c.draw_word-word.result / 2 ^ (bits - c.args.count) in
    let named = named-power bits c.args.count c.draw_word-word.result c.requires fits in
    let less = div-le_self c.draw_word-word.result (2 ^ (bits - c.args.count)) in
    let below : top < 2 ^ bits = omega (arith, less, fits) in
    let is : c.at_place.result ≡ g.T.Number.number top = rw (← c.BITS-2.ensures, ← c.from.ensures) c.at_place.ensures in
    named ∙ ap Some (sym (ap (λ x. g.T.Number.rank x) is ∙ g.met.T.Number.ranked top below))

-- so it decides the draw
decides : (g : Given.Over) (c : goal.After-at_place g) →
    Drawn (next_word g.G.Rng.requests g.T.Number.BITS) (after_word g.G.Rng.requests g.T.Number.BITS) word_limit g.T.Number.BITS (2 ^ c.args.count) c.args.rng.now
    (Some (g.T.Number.rank c.at_place.result)) 1 (after_word g.G.Rng.requests g.T.Number.BITS c.args.rng.now)
decides g c =
    let word = rw c.BITS.ensures at c.draw_word-word.ensures.value in
    first_word _ _ word_limit _ _ _ _ _ (omega arith) word (names g c)

pub returns-clause-below : goal.returns-clause-below
returns-clause-below g c = (decides g c).1.below

pub returns-clause-drawn : goal.returns-clause-drawn
returns-clause-drawn g c = sym (decides g c).1.number

pub returns-clause-left : goal.returns-clause-left
returns-clause-left g c = rw (c.draw_word-word.ensures.state, c.BITS.ensures) (decides g c).1.state
