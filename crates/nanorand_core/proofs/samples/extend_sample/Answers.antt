use Rattle.std.proofs.Common.{◌≡◌, ◌+◌, ◌-◌, ◌<◌, length, take, sym, ◌∙◌, ap, arith}
use Rattle.std.proofs.lemmas.List.{take_all, take_more_set}
use Rattle.std.proofs.lemmas.Result.{err_from_is_err_and}
use Rattle.nanorand_core.specs.values.Draws.{after_word, word_limit}
use Rattle.nanorand_core.specs.samples.Samples.{Sample, joining}
use Rattle.nanorand_core.proofs.lemmas.SampleLemmas.{joined_below, joined_apart, sampling_goes_on, sampling_ends, slots_filled, slots_left, words_more}
use Rattle.nanorand_core.proofs.samples.extend_sample.Goals as goal

pub returns-in_err-drawn : goal.returns-in_err-drawn
returns-in_err-drawn g c =
    let so_far = c.loop-slot.invariant in
    let slot = c.loop-slot.slot in
    let size = length c.args.places.now in
    let kept = err_from_is_err_and c.from_residual.result c.from_residual.ensures.1 in
    let ended = sampling_ends g.G.Rng.requests (c.args.count - size) slot size c.loop-slot.rng _ (take slot c.loop-slot.places) _
    (omega arith) so_far.sampling c.in_err-drawn.ensures.state _ c.in_err-drawn.ensures.value in
    let more = words_more (after_word g.G.Rng.requests 64) word_limit (slot - c.args.filled) _ _ _ so_far.words
    c.draw_up_to.ensures.words in
    rw (kept.1, kept.2) (record {
      answer = ap (λ (s : Sample _). s.answer) ended;
      places = slots_filled slot c.loop-slot.places c.args.places.now _ (omega arith) (sym (ap (λ (s : Sample _). s.numbers) ended)) so_far.rest;
      state = ap (λ (s : Sample _). s.state) ended;
      whole = tt;
      different = λ _. tt;
      refusal = c.in_err-drawn.ensures.refusal;
      words = (more.0, omega (arith, more.1), more.2);
    })

pub loop-slot-preserved : goal.loop-slot-preserved
loop-slot-preserved g c =
    let so_far = c.loop-slot.invariant in
    let slot = c.loop-slot.slot in
    let size = length c.args.places.now in
    let first = c.args.count - size in
    let places = c.loop-slot.places in
    let drawn = c.in_ok-drawn.drawn in
    let sample = take slot places in
    let within : slot < length places = omega arith in
    let more = words_more (after_word g.G.Rng.requests 64) word_limit (slot - c.args.filled) _ _ _ so_far.words
    c.draw_up_to.ensures.words in
    let later : first + (slot + 1) ≡ first + slot + 1 = omega arith in
    rw (take_more_set places slot c.joining-number.result within, c.joining-number.ensures)
    (record {
      sampling = sampling_goes_on g.G.Rng.requests first slot size c.loop-slot.rng _ sample _
          (omega arith) so_far.sampling c.in_ok-drawn.ensures.state drawn c.in_ok-drawn.ensures.value;
      rest = slots_left slot (joining (first + slot) drawn sample) places c.args.places.now so_far.rest;
      different = λ start. let so_far_different = so_far.different start in (
        rw later (joined_below (first + slot) drawn sample so_far_different.0 c.in_ok-drawn.ensures.within),
        joined_apart (first + slot) drawn sample so_far_different.0 so_far_different.1,
      );
      words = (more.0, omega (arith, more.1), more.2);
      chained = rw c.joining-number.ensures at c.link.ensures.chained;
    })

pub returns : goal.returns
returns g c =
    let so_far = c.loop-slot.invariant in
    let slot = c.loop-slot.slot in
    let size = length c.args.places.now in
    let places = c.loop-slot.places in
    let done : slot ≡ size = omega arith in
    let none : size - slot ≡ 0 = omega arith in
    let all : take slot places ≡ places = take_all slot places (omega arith) in
    let ended = rw none at so_far.sampling in
    let numbers = sym (ap (λ (s : Sample _). s.numbers) ended) in
    let end : c.args.count - size + slot ≡ c.args.count = omega arith in
    record {
      answer = ap (λ (s : Sample _). s.answer) ended;
      places = slots_filled slot places c.args.places.now _ (omega arith) numbers so_far.rest;
      state = ap (λ (s : Sample _). s.state) ended;
      whole = sym all ∙ sym numbers;
      different = rw (all, end) at so_far.different;
      refusal = tt;
      words = rw done at so_far.words;
    }
