use Rattle.std.proofs.Common.{length, ◌∙◌, arith}
use Rattle.std.proofs.lemmas.Result.{err_from_is_err_and}
use Rattle.nanorand_core.specs.shuffles.Shuffles.{from_all, partner_drawn}
use Rattle.nanorand_core.proofs.lemmas.shuffles.ShuffleLemmas.{shuffling-start, choice-below, shuffling-step, refused, done, partial-words}
use Rattle.nanorand_core.proofs.shuffles.shuffle_full.Goals as goal

pub loop-place-init : goal.loop-place-init
loop-place-init g c =
    shuffling-start g.G.Rng.requests from_all (length c.args.target.now) c.args.target.now c.args.rng.now (omega arith)

pub returns-in_err-other : goal.returns-in_err-other
unfolding partner_drawn
returns-in_err-other g c =
    let so_far = c.loop-place.invariant in
    let ended = refused so_far c.loop-place-test.true c.in_err-other.ensures.value (omega arith) (omega arith) in
    let words = partial-words g.G.Rng.requests from_all (length c.args.target.now) (length c.args.target.now) c.args.rng.now in
    let kept = err_from_is_err_and c.from_residual.result c.from_residual.ensures.1 in
    rw (kept.1, kept.2, c.in_err-other.ensures.state) (record {
      answer = ended.answered;
      refusal = ended.reason;
      items = ended.made;
      state = ended.left;
      arrangement = so_far.shuffled;
      words = (words.0, words.1, ended.left ∙ words.2);
    })

pub swap-requires : goal.swap-requires
unfolding partner_drawn
swap-requires g c =
    let below = choice-below c.loop-place.invariant c.in_ok-other.ensures.value in
    (omega arith, omega arith)

pub loop-place-preserved : goal.loop-place-preserved
unfolding partner_drawn
loop-place-preserved g c =
    rw (c.in_ok-other.ensures.state, c.swap.ensures)
    (shuffling-step c.loop-place.invariant c.loop-place-test.true c.in_ok-other.ensures.value)

pub returns : goal.returns
returns g c =
    let so_far = c.loop-place.invariant in
    let ended = done so_far (omega arith) in
    let words = partial-words g.G.Rng.requests from_all (length c.args.target.now) (length c.args.target.now) c.args.rng.now in
    record {
      answer = ended.answered;
      items = ended.made;
      state = ended.left;
      arrangement = so_far.shuffled;
      refusal = ended.reason;
      words = (words.0, words.1, ended.left ∙ words.2);
    }
