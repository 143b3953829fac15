use Rattle.std.proofs.Common.{◌≡◌, ℕ, ◌*◌, ◌/◌, ◌-◌, ◌<◌, ◌≤◌, ◌++◌, length, take, slice_index}
use Rattle.nanorand_core.specs.values.Draws.{after_words}
use Rattle.nanorand_users.specs.Retry.{ceiling_after, delays_after, state_after_delays}
use Rattle.nanorand_users.proofs.retry.schedule.Given as goal

abbrev pub invariant-loop-slot : goal.invariant-loop-slot
invariant-loop-slot g l =
    let requests = g.G.Rng.requests in
    let tries = length l.fn.delays in
    let k = l.slot-index in
    record {
      ceiling : l.ceiling ≡ ceiling_after l.first l.cap k;
      drawn : take k l.delays ++ delays_after requests l.first l.cap k (tries - k) l.rng
          ≡ delays_after requests l.first l.cap 0 tries l.fn.rng;
      state : state_after_delays requests l.first l.cap k (tries - k) l.rng
          ≡ state_after_delays requests l.first l.cap 0 tries l.fn.rng;
      half : (j : ℕ) → j < k → ceiling_after l.first l.cap j / 2 ≤ slice_index l.delays j;
      below : (j : ℕ) → j < k → slice_index l.delays j ≤ ceiling_after l.first l.cap j;
      words : (n : ℕ) × (n ≤ 128 * k) × (l.rng ≡ after_words requests 64 n l.fn.rng);
    }
