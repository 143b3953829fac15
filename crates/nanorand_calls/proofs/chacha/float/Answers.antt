use Rattle.std.proofs.Common.{ap, ◌∙◌}
use Rattle.nanorand.specs.generators.ChaCha.{key_of, nonce_of}
use Rattle.nanorand_calls.proofs.chacha.float.Goals as goal

-- One draw keeps the key and the nonce.
pub returns-clause-key : goal.returns-clause-key
returns-clause-key g c =
    c.store.ensures.key ∙ ap key_of c.float-number.ensures.state ∙ c.loaded-rng.ensures.keys 1

pub returns-clause-nonce : goal.returns-clause-nonce
returns-clause-nonce g c =
    c.store.ensures.nonce ∙ ap nonce_of c.float-number.ensures.state ∙ c.loaded-rng.ensures.nonces 1
