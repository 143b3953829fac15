use Rattle.std.proofs.Common.{ap, ◌∙◌}
use Rattle.nanorand.specs.generators.ChaCha.{counter}
use Rattle.nanorand.proofs.rand.chacha.ChaChaDebug.fmt.Goals as goal

pub returns : goal.returns
returns g c = rw (c.counter-counter.ensures ∙ ap counter c.self.view_is) at c.write.ensures
