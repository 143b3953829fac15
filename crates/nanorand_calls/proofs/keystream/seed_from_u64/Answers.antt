use Rattle.std.proofs.Common.{arith, ap₂}
use Rattle.std.proofs.lemmas.List.{drop_all}
use Rattle.nanorand_replay.specs.generators.Buffered.{buffer_of}
use Rattle.nanorand_calls.proofs.keystream.seed_from_u64.Goals as goal

-- No bytes of the block are buffered.
pub returns-clause-state : goal.returns-clause-state
returns-clause-state c = ap₂ buffer_of (drop_all 512 c.args.stream.now.group (omega arith)) c.seed_from_u64.ensures
