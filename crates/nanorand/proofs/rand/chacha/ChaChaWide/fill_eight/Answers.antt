use Rattle.std.proofs.Common.{◌≡◌, ◌++◌, length, arith, sym, ap, ap₂, ◌∙◌}
use Rattle.std.proofs.lemmas.Grind.{common_steps}
use Rattle.nanorand.specs.generators.ChaCha.{bytes, chacha_block, next_state}
use Rattle.nanorand.specs.support.ChaChaDrawLemmas.{length-chacha_block, chacha_steps}
use Rattle.nanorand.proofs.lemmas.chacha.GroupLemmas.{two_written, taken_eight}
use Rattle.nanorand.proofs.lemmas.chacha.RowLemmas.{same_rows}
use Rattle.nanorand.proofs.rand.chacha.ChaChaWide.fill_eight.Goals as goal

pub returns-clause-bytes : goal.returns-clause-bytes
returns-clause-bytes g c =
    let blocks = c.eight_blocks.ensures in
    let front = c.write_four.ensures ∙ same_rows (ap bytes blocks.first) (ap bytes blocks.second) (ap bytes blocks.third) (ap bytes blocks.fourth) in
    let back = c.write_four-2.ensures ∙ same_rows (ap bytes blocks.fifth) (ap bytes blocks.sixth) (ap bytes blocks.seventh) (ap bytes blocks.eighth) in
    let front_long : length c.write_four.new.out ≡ 256 = let long = c.write_four.auto.out in grind (arith, common_steps) in
    rw (← c.self.view_is)
    (two_written c.args.out.now c.write_four.new.out c.write_four-2.new.out c.requires front_long
    ∙ ap₂ (λ x y. x ++ y) front back
    ∙ sym (taken_eight (chacha_block g.row.ROUNDS) next_state (length-chacha_block g.row.ROUNDS) _))

pub returns-clause-state : goal.returns-clause-state
returns-clause-state g c = c.jump.ensures.state ∙ sym (chacha_steps 8 c.args.self.now)

pub write_four-requires-2 : goal.write_four-requires-2
write_four-requires-2 g c = let long = c.write_four.auto.out in grind (arith, common_steps)
