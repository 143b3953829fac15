use Rattle.std.proofs.Common.{sym, ap, ◌∙◌}
use Rattle.nanorand.specs.generators.ChaCha.{bytes, chacha_block, next_state}
use Rattle.nanorand.specs.support.ChaChaDrawLemmas.{length-chacha_block, chacha_steps}
use Rattle.nanorand.proofs.lemmas.chacha.GroupLemmas.{taken_four}
use Rattle.nanorand.proofs.lemmas.chacha.RowLemmas.{same_rows}
use Rattle.nanorand.proofs.rand.chacha.ChaCha.fill_four.Goals as goal

pub returns-clause-bytes : goal.returns-clause-bytes
returns-clause-bytes g c =
    let blocks = c.four_blocks-blocks.ensures in
    rw (← c.self.view_is)
    (c.write_four.ensures
    ∙ same_rows (ap bytes blocks.first) (ap bytes blocks.second) (ap bytes blocks.third) (ap bytes blocks.fourth)
    ∙ sym (taken_four (chacha_block g.row.ROUNDS) next_state (length-chacha_block g.row.ROUNDS) _))

pub returns-clause-state : goal.returns-clause-state
returns-clause-state g c = c.jump.ensures.state ∙ sym (chacha_steps 4 c.args.self.now)
