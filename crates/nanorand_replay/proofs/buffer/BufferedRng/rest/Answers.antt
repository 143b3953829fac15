use Rattle.std.proofs.Common.{ap, ◌∙◌}
use Rattle.std.proofs.lemmas.List.{take_rest}
use Rattle.nanorand_replay.specs.generators.Buffered.{Buffered}
use Rattle.nanorand_replay.proofs.buffer.BufferedRng.rest.Goals as goal

pub returns-clause-value : goal.returns-clause-value
returns-clause-value g c = take_rest c.self.inside.block c.self.inside.cursor ∙ ap (λ (b : Buffered g.row.G.Denot). b.rest) c.self.view_is
