use Rattle.std.proofs.Common.{ℕ}
use Rattle.nanorand.specs.generators.Parts.{part_at}
use Rattle.nanorand.proofs.lemmas.generators.PartLemmas.{in_any_order}
use Rattle.nanorand.proofs.laws.parts_in_any_order.Goals as goal

pub returns : goal.returns
returns g c task draws count stream schedule results long each =
    in_any_order (λ (i : ℕ). task i (part_at g.G.Rng.requests draws i stream)) count schedule results long each
