use Rattle.std.proofs.Common.{rules}
use Rattle.rand_core.proofs.StepsLemmas.{meets_fill_bytes}
use Rattle.nanorand_rand.proofs.ours.CoreRng.fill_bytes.Goals as goal

pub returns-clause-call : goal.returns-clause-call
returns-clause-call g c = meets_fill_bytes _ _ _ _ _ (search rules)
