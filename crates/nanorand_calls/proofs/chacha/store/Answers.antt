use Rattle.std.proofs.Common.{◌∙◌}
use Rattle.nanorand.specs.generators.ChaCha.{state_at}
use Rattle.nanorand_calls.proofs.chacha.store.Goals as goal

pub returns-clause-state : goal.returns-clause-state
returns-clause-state g c = (λ i. state_at (c.key.ensures.value i) (c.nonce.ensures i) (c.counter.ensures.value i)) ∙ c.key.ensures.parts

pub returns-clause-counter : goal.returns-clause-counter
returns-clause-counter g c = c.counter.ensures.value

pub returns-clause-key : goal.returns-clause-key
returns-clause-key g c = c.key.ensures.value

pub returns-clause-nonce : goal.returns-clause-nonce
returns-clause-nonce g c = c.nonce.ensures
