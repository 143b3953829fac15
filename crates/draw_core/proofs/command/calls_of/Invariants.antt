use Rattle.std.proofs.Common.{◌≡◌, ℕ, ◌<◌, List, ◌++◌, drop}
use Rattle.nanorand_replay.specs.declared.replay.Call.{Call}
use Rattle.draw_core.specs.Requests.{IsRequest}
use Rattle.draw_core.specs.Arguments.{AreRequests, texts, argument_at}
use Rattle.draw_core.proofs.command.calls_of.Given as goal

abbrev pub invariant-loop-index : goal.invariant-loop-index
invariant-loop-index g l = record {
  said : (rest : List Call) → AreRequests (drop l.index (texts l.requests)) rest → AreRequests (texts l.requests) (l.calls.items ++ rest);
  only : (others : List Call) → AreRequests (texts l.requests) others → (rest : List Call)
      × (others ≡ l.calls.items ++ rest) × AreRequests (drop l.index (texts l.requests)) rest;
  read : (earlier : ℕ) → earlier < l.index → (call : Call) × IsRequest (argument_at (texts l.requests) earlier) call;
}
