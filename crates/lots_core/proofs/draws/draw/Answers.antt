use Rattle.std.proofs.Common.{◌≡◌, ◌∙◌, Result, Ok, Err, false, take, ap, sym, rules}
use Rattle.std.specs.Prelude.{IfErr, OnOk}
use Rattle.std.specs.Result.{is_ok}
use Rattle.nanorand_core.specs.declared.values.range.RangeError.{RangeError}
use Rattle.nanorand_core.specs.declared.values.range.RangeError.TheVariants.{Exhausted}
use Rattle.nanorand_core.specs.shuffles.Shuffles.{from_itself, partly_shuffled}
use Rattle.lots_core.specs.Draws.{drawing, requests}
use Rattle.lots_core.proofs.draws.draw.Goals as goal

-- An equality holds on success.
equal_on_success : {E T : Type 0} (outcome : Result Unit E) (x y : T) → x ≡ y → OnOk outcome (x ≡ y)
equal_on_success (Ok done) x y same = same
equal_on_success (Err error) x y same = tt

-- If the draw succeeds, the shuffle has succeeded.
answered : {E : Type 0} (shuffled answer : Result Unit RangeError) (outcome : Result Unit E)
    → is_ok outcome ≡ is_ok shuffled → shuffled ≡ answer → OnOk outcome (answer ≡ Ok tt)
answered shuffled answer (Err error) same is = tt
answered (Ok tt) answer (Ok done) same is = sym is
answered (Err error) answer (Ok done) same is = absurd (cc)

-- If the draw fails, the shuffle has failed with `Exhausted`.
refused : {E : Type 0} (shuffled answer : Result Unit RangeError) (outcome : Result Unit E) (named : E)
    → is_ok outcome ≡ is_ok shuffled → shuffled ≡ answer → IfErr shuffled (λ refusal. refusal ≡ Exhausted)
    → outcome ≡ Err named → answer ≡ Err Exhausted
refused (Ok done) answer outcome named same is refusal failed =
    let not_ok : is_ok outcome ≡ false = ap is_ok failed in absurd (cc)
refused (Err error) answer outcome named same is refusal failed = sym is ∙ ap Err refusal

pub returns-clause-answer : goal.returns-clause-answer
returns-clause-answer g c =
    answered c.partial_shuffle.result
    (drawing c.args.seed.now c.args.count c.args.entrants.now).answer c.map_err.result c.map_err.ensures.variant
    (c.partial_shuffle.ensures.answer
    ∙ ap (λ start. (partly_shuffled requests from_itself c.args.count start c.args.entrants.now).answer)
    c.words_of.ensures)

pub returns-clause-drawn : goal.returns-clause-drawn
returns-clause-drawn g c =
    let count = c.args.count in
    let items = c.partial_shuffle.ensures.items
    ∙ ap (λ start. (partly_shuffled requests from_itself count start c.args.entrants.now).items) c.words_of.ensures in
    equal_on_success c.map_err.result (take count c.partial_shuffle.new.target)
    (take count (drawing c.args.seed.now count c.args.entrants.now).items)
    (ap (take count) items)

pub returns-clause-arrangement : goal.returns-clause-arrangement
returns-clause-arrangement g c = c.partial_shuffle.ensures.arrangement

pub returns-clause-exhausted : goal.returns-clause-exhausted
returns-clause-exhausted g c = λ failed.
    refused c.partial_shuffle.result
    (drawing c.args.seed.now c.args.count c.args.entrants.now).answer c.map_err.result _ c.map_err.ensures.variant
    (c.partial_shuffle.ensures.answer
    ∙ ap (λ start. (partly_shuffled requests from_itself c.args.count start c.args.entrants.now).answer)
    c.words_of.ensures)
    c.partial_shuffle.ensures.refusal failed

pub returns-then-there-count-clause-few : goal.returns-then-there-count-clause-few
returns-then-there-count-clause-few g c = search rules

pub returns-clause-refusal : goal.returns-clause-refusal
returns-clause-refusal g c = search rules

pub returns-then-there-count-clause-refusal : goal.returns-then-there-count-clause-refusal
returns-then-there-count-clause-refusal g c = search rules
