use Rattle.std.proofs.Common.{◌-◌, ◌<◌, length, sym, ◌∙◌, arith}
use Rattle.nanorand_core.specs.shuffles.Shuffles.{from_itself}
use Rattle.nanorand_core.proofs.lemmas.shuffles.PartnerLemmas.{partner-number, partner-exhausted, partner-state}
use Rattle.nanorand_core.proofs.lemmas.shuffles.ShuffleLemmas.{shuffling-start, shuffling-step, refused, done, count-done, choices-valid, partial-words}
use Rattle.nanorand.specs.generators.WyRand.{wyrand_requests}
use Rattle.nanorand.proofs.rand.wyrand.shuffle_from.Goals as goal

pub loop-place-init : goal.loop-place-init
loop-place-init g c =
    shuffling-start wyrand_requests from_itself (length c.args.target.now) c.args.target.now c.args.seed (omega arith)

pub returns-in-None : goal.returns-in-None
returns-in-None g c =
    let size = length c.args.target.now in
    let so_far = c.loop-place.invariant in
    let partner = partner-exhausted wyrand_requests size c.loop-place.place c.loop-place.now c.loop-place-test.true (omega arith)
    (sym c.in-None.is ∙ c.below-ahead.ensures.number) in
    let state = partner-state wyrand_requests size c.loop-place.place c.loop-place.now c.loop-place-test.true (omega arith)
    c.below-ahead.result.1 c.below-ahead.ensures.state in
    let ended = refused so_far c.loop-place-test.true partner (omega arith) (omega arith) in
    let words = partial-words wyrand_requests from_itself size size c.args.seed in
    rw state (record {
      answer = ended.answered;
      refusal = ended.reason;
      items = ended.made;
      state = ended.left;
      arrangement = so_far.shuffled;
      whole = tt;
      valid = tt;
      words = (words.0, words.1, ended.left ∙ words.2);
    })

pub loop-place-preserved : goal.loop-place-preserved
loop-place-preserved g c =
    let size = length c.args.target.now in
    let below : c.in-Some.ahead < size - c.loop-place.place = rw c.in-Some.is at c.below-ahead.ensures.below in
    let partner = partner-number wyrand_requests size c.loop-place.place c.loop-place.now c.loop-place-test.true (omega arith)
    c.in-Some.ahead below (sym c.in-Some.is ∙ c.below-ahead.ensures.number) in
    let state = partner-state wyrand_requests size c.loop-place.place c.loop-place.now c.loop-place-test.true (omega arith)
    c.below-ahead.result.1 c.below-ahead.ensures.state in
    rw (state, c.swap.ensures) (shuffling-step c.loop-place.invariant c.loop-place-test.true partner)

pub returns : goal.returns
returns g c =
    let size = length c.args.target.now in
    let so_far = c.loop-place.invariant in
    let ended = done so_far (omega arith) in
    let whole = count-done so_far (omega arith) ∙ omega arith in
    let words = partial-words wyrand_requests from_itself size size c.args.seed in
    record {
      answer = ended.answered;
      refusal = ended.reason;
      items = ended.made;
      state = ended.left;
      arrangement = so_far.shuffled;
      whole = whole;
      valid = choices-valid wyrand_requests size c.args.seed whole;
      words = (words.0, words.1, ended.left ∙ words.2);
    }
