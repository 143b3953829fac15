use Rattle.std.proofs.Common.{◌<◌, length, min, ◌∙◌, arith}
use Rattle.std.proofs.lemmas.Result.{err_from_is_err_and}
use Rattle.nanorand_core.specs.shuffles.Shuffles.{from_itself, partner_drawn}
use Rattle.nanorand_core.proofs.lemmas.shuffles.ShuffleLemmas.{shuffling-start, choice-below, shuffling-step, refused, done, count-done, partial-words}
use Rattle.nanorand_core.proofs.lemmas.shuffles.PartialLemmas.{partial-valid}
use Rattle.nanorand_core.proofs.shuffles.partial_shuffle.Goals as goal

pub loop-place-init : goal.loop-place-init
loop-place-init g c =
    let items = c.args.target.now in
    shuffling-start g.G.Rng.requests from_itself (min c.args.count (length items)) items c.args.rng.now (omega arith)

pub returns-in_err-chosen : goal.returns-in_err-chosen
unfolding partner_drawn
returns-in_err-chosen g c =
    let so_far = c.loop-place.invariant in
    let size = length c.args.target.now in
    let low : c.loop-place.place < min c.args.count size = omega arith in
    let ended = refused so_far low c.in_err-chosen.ensures.value (omega arith) (omega arith) in
    let words = partial-words g.G.Rng.requests from_itself size (min c.args.count size) c.args.rng.now in
    let kept = err_from_is_err_and c.from_residual.result c.from_residual.ensures.1 in
    rw (kept.1, kept.2, c.in_err-chosen.ensures.state) (record {
      answer = ended.answered;
      refusal = ended.reason;
      items = ended.made;
      state = ended.left;
      arrangement = so_far.shuffled;
      whole = tt;
      valid = partial-valid g.G.Rng.requests size (min c.args.count size) c.args.rng.now (omega arith);
      words = (words.0, words.1, ended.left ∙ words.2);
    })

pub swap-requires : goal.swap-requires
unfolding partner_drawn
swap-requires g c =
    let below = choice-below c.loop-place.invariant c.in_ok-chosen.ensures.value in
    (omega arith, omega arith)

pub loop-place-preserved : goal.loop-place-preserved
unfolding partner_drawn
loop-place-preserved g c =
    rw (c.in_ok-chosen.ensures.state, c.swap.ensures)
    (shuffling-step c.loop-place.invariant (omega arith) c.in_ok-chosen.ensures.value)

pub returns : goal.returns
returns g c =
    let so_far = c.loop-place.invariant in
    let size = length c.args.target.now in
    let ended = done so_far (omega arith) in
    let words = partial-words g.G.Rng.requests from_itself size (min c.args.count size) c.args.rng.now in
    record {
      answer = ended.answered;
      refusal = ended.reason;
      items = ended.made;
      state = ended.left;
      arrangement = so_far.shuffled;
      whole = count-done so_far (omega arith) ∙ omega arith;
      valid = partial-valid g.G.Rng.requests size (min c.args.count size) c.args.rng.now (omega arith);
      words = (words.0, words.1, ended.left ∙ words.2);
    }
