use Rattle.std.proofs.Common.{◌∙◌}
use Rattle.nanorand.specs.support.ChaChaGroupLemmas.{taken_chacha_group, after_chacha_group}
use Rattle.nanorand.proofs.rand.chacha_groups.ChaChaGroupsBlocks512.rand.Goals as goal

pub returns-clause-bytes : goal.returns-clause-bytes
returns-clause-bytes g c =
    rw (← c.self.view_is) (c.next_group.ensures.bytes ∙ taken_chacha_group g.row.ROUNDS c.self.inside.chacha)

pub returns-clause-state : goal.returns-clause-state
returns-clause-state g c =
    rw (← c.self.view_is) (c.next_group.ensures.state ∙ after_chacha_group c.self.inside.chacha)
