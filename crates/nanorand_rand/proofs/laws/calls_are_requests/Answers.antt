use Rattle.rand_core.proofs.StepsLemmas.{next_u32-stream_of, next_u64-stream_of, fill_bytes-stream_of}
use Rattle.nanorand_rand.proofs.laws.calls_are_requests.Goals as goal

pub returns-clause-word : goal.returns-clause-word
returns-clause-word g c = λ state. next_u32-stream_of _ state

pub returns-clause-number : goal.returns-clause-number
returns-clause-number g c = λ state. next_u64-stream_of _ state

pub returns-clause-bytes : goal.returns-clause-bytes
returns-clause-bytes g c = λ state n. fill_bytes-stream_of _ n state
