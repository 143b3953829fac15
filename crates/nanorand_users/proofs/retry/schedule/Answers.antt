use Rattle.std.proofs.Common.{◌≢◌, ◌<◌, length, get_or-set_other, get_or-set_same, below_more, ◌∙◌, arith}
use Rattle.nanorand_core.specs.values.Draws.{after_word}
use Rattle.nanorand_users.proofs.lemmas.WordCountLemmas.{words_more}
use Rattle.nanorand_users.proofs.lemmas.RetryLemmas.{next_ceiling, delays_more, state_more}
use Rattle.nanorand_users.proofs.retry.schedule.Goals as goal

pub loop-slot-preserved : goal.loop-slot-preserved
loop-slot-preserved g c =
    let requests = g.G.Rng.requests in
    let first = c.args.first in
    let cap = c.args.cap in
    let k = c.loop-slot.slot-index in
    let tries = length c.args.delays.now in
    let so_far = c.loop-slot.invariant in
    let within : k < length c.loop-slot.delays = omega arith in
    let value = rw so_far.ceiling at c.delay.ensures.value in
    let state = rw so_far.ceiling at c.delay.ensures.state in
    record {
      ceiling = c.min-ceiling-in-loop-slot.ensures
          ∙ next_ceiling first cap k c.loop-slot.ceiling c.saturating_mul.result c.ranges.cap.fits so_far.ceiling
          c.saturating_mul.ensures;
      drawn = delays_more requests first cap tries k c.loop-slot.rng c.delay.new.rng c.loop-slot.delays _
          c.delay.result c.loop-slot-test.true (omega arith) so_far.drawn value state;
      state = state_more requests first cap tries k c.loop-slot.rng c.delay.new.rng _ c.loop-slot-test.true so_far.state state;
      half = below_more _ _ (λ j h. let other : j ≢ k = omega arith in rw get_or-set_other (so_far.half j h))
          (rw (get_or-set_same, ← so_far.ceiling) c.delay.ensures.half);
      below = below_more _ _ (λ j h. let other : j ≢ k = omega arith in rw get_or-set_other (so_far.below j h))
          (rw (get_or-set_same, ← so_far.ceiling) c.delay.ensures.ceiling);
      words = words_more (after_word requests 64) 128 k _ _ _ so_far.words c.delay.ensures.words;
    }
