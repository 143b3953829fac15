use Rattle.std.proofs.Common.{ap, refl, ◌∙◌, arith}
use Rattle.std.specs.Prelude.{replicate}
use Rattle.nanorand.specs.generators.ChaCha.{initial_state}
use Rattle.lots_core.proofs.draws.words_of.Goals as goal

pub new_key-requires : goal.new_key-requires
new_key-requires c = (omega arith, refl)

pub returns : goal.returns
returns c =
    let start = c.new_key.ensures.state ∙ ap (λ key. initial_state key (replicate 8 0)) c.digest.ensures in
    λ i. record { rest = c.new.ensures.rest i; inner = (c.new.ensures.inner ∙ start) i }
