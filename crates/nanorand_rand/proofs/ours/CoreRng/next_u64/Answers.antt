use Rattle.std.proofs.Common.{rules}
use Rattle.rand_core.proofs.StepsLemmas.{meets_next_u64}
use Rattle.nanorand_rand.proofs.ours.CoreRng.next_u64.Goals as goal

pub returns-clause-call : goal.returns-clause-call
returns-clause-call g c = meets_next_u64 _ _ _ _ (search rules)
