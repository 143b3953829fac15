use Rattle.std.proofs.Common.{◌≡◌, length, ◌++◌, take, drop}
use Rattle.nanorand_replay.specs.replay.Replay.{replayed}
use Rattle.nanorand_replay.proofs.replay.replay.Given as goal

-- the answers so far, followed by those to the remaining calls, are all answers, and the final
-- items and state are the same
abbrev pub invariant-loop-place : goal.invariant-loop-place
invariant-loop-place g l =
    let left = replayed g.G.Rng.requests l.rng l.items (drop l.place l.calls) in
    let all = replayed g.G.Rng.requests l.fn.rng l.fn.items l.calls in
    record {
      room : length l.answers ≡ length l.calls;
      answers : take l.place l.answers ++ left.answers ≡ all.answers;
      items : left.items ≡ all.items;
      state : left.state ≡ all.state;
    }
