use Rattle.std.proofs.Common.{length, ◌∙◌, ap, arith}
use Rattle.std.proofs.lemmas.Result.{err_from_is_err_and}
use Rattle.nanorand_core.specs.shuffles.Arrangements.{rising}
use Rattle.nanorand_core.specs.shuffles.Shuffles.{from_itself, partner_drawn}
use Rattle.nanorand_core.proofs.lemmas.shuffles.ShuffleLemmas.{shuffling-start, choice-below, shuffling-step, refused, done, count-refused, count-done, partial-words}
use Rattle.nanorand_core.proofs.lemmas.shuffles.RecordLemmas.{completed-whole, recorded-start, recorded-step, recorded}
use Rattle.nanorand_core.proofs.shuffles.shuffle_and_record.Goals as goal

pub loop-place-init : goal.loop-place-init
loop-place-init g c =
    let requests = g.G.Rng.requests in
    record {
      shuffling = shuffling-start requests from_itself (length c.args.target.now) c.args.target.now c.args.rng.now (omega arith);
      recorded = recorded-start requests c.args.target.now c.args.rng.now c.identity.new.slots
          (c.identity.ensures ∙ ap rising (omega arith));
    }

pub returns-in_err-partner : goal.returns-in_err-partner
unfolding partner_drawn
returns-in_err-partner g c =
    let so_far = c.loop-place.invariant in
    let ended = refused so_far.shuffling c.loop-place-test.true c.in_err-partner.ensures.value (omega arith) (omega arith) in
    let words = partial-words g.G.Rng.requests from_itself (length c.args.target.now) (length c.args.target.now) c.args.rng.now in
    let size = count-refused so_far.shuffling c.loop-place-test.true c.in_err-partner.ensures.value in
    let stored = recorded so_far (omega arith) size in
    let kept = err_from_is_err_and c.from_residual.result c.from_residual.ensures.1 in
    rw (kept.1, kept.2, c.in_err-partner.ensures.state) (record {
      answer = ended.answered;
      refusal = ended.reason;
      items = ended.made;
      state = ended.left;
      arrangement = so_far.shuffling.shuffled;
      drawn = tt;
      recorded = stored.is;
      valid = stored.valid;
      makes = stored.makes;
      words = (words.0, words.1, ended.left ∙ words.2);
    })

pub swap-requires : goal.swap-requires
unfolding partner_drawn
swap-requires g c =
    let below = choice-below c.loop-place.invariant.shuffling c.in_ok-partner.ensures.value in
    (omega arith, omega arith)

pub loop-place-preserved : goal.loop-place-preserved
unfolding partner_drawn
loop-place-preserved g c =
    let so_far = c.loop-place.invariant in
    rw (c.in_ok-partner.ensures.state, c.swap.ensures)
    (record {
      shuffling = shuffling-step so_far.shuffling c.loop-place-test.true c.in_ok-partner.ensures.value;
      recorded = recorded-step so_far c.loop-place-test.true c.in_ok-partner.ensures.value;
    })

pub returns : goal.returns
returns g c =
    let so_far = c.loop-place.invariant in
    let ended = done so_far.shuffling (omega arith) in
    let words = partial-words g.G.Rng.requests from_itself (length c.args.target.now) (length c.args.target.now) c.args.rng.now in
    let size = count-done so_far.shuffling (omega arith) in
    let stored = recorded so_far (omega arith) size in
    record {
      answer = ended.answered;
      refusal = ended.reason;
      items = ended.made;
      state = ended.left;
      arrangement = so_far.shuffling.shuffled;
      drawn = stored.is ∙ completed-whole (length c.args.target.now) _ (size ∙ omega arith);
      recorded = stored.is;
      valid = stored.valid;
      makes = stored.makes;
      words = (words.0, words.1, ended.left ∙ words.2);
    }
