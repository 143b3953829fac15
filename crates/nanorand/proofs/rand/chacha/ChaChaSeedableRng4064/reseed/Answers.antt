use Rattle.std.proofs.Common.{take, ap, ap₂, ◌∙◌}
use Rattle.nanorand.specs.generators.ChaCha.{initial_state}
use Rattle.nanorand.proofs.lemmas.chacha.SavedLemmas.{constants-initial_state}
use Rattle.nanorand.proofs.rand.chacha.ChaChaSeedableRng4064.reseed.Goals as goal

pub invariant_of-self : goal.invariant_of-self
invariant_of-self g c =
    (c.self.invariant.0, ap (take 4) c.chacha_init-self-inside.ensures ∙ constants-initial_state _ _)

pub returns : goal.returns
returns g c = c.chacha_init-self-inside.ensures ∙ ap₂ (λ key nonce. initial_state key nonce) c.split_seed.ensures.key c.split_seed.ensures.nonce
