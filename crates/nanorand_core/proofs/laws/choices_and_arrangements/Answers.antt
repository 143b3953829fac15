use Rattle.nanorand_core.proofs.lemmas.shuffles.CorrespondenceLemmas.{corresponds}
use Rattle.nanorand_core.proofs.laws.choices_and_arrangements.Goals as goal

pub returns : goal.returns
returns c = corresponds
