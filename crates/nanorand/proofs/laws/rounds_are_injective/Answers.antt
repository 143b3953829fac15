use Rattle.nanorand.proofs.lemmas.chacha.InverseLemmas.{rounds_are_injective}
use Rattle.nanorand.proofs.laws.rounds_are_injective.Goals as goal

pub returns : goal.returns
returns c = rounds_are_injective
