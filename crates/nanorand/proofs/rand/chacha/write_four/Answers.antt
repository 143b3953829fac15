use Rattle.std.proofs.Common.{◌≡◌, length, rules, ◌∙◌}
use Rattle.nanorand.proofs.lemmas.chacha.GroupLemmas.{four_written}
use Rattle.nanorand.proofs.lemmas.chacha.RowLemmas.{same_rows}
use Rattle.nanorand.proofs.rand.chacha.write_four.Goals as goal

pub returns : goal.returns
returns c =
    let first = c.copy_from_slice.ensures.after ∙ c.bytes_of.ensures in
    let second = c.copy_from_slice-2.ensures.after ∙ c.bytes_of-2.ensures in
    let third = c.copy_from_slice-3.ensures.after ∙ c.bytes_of-3.ensures in
    let fourth = c.copy_from_slice-4.ensures.after ∙ c.bytes_of-4.ensures in
    let p_long : length c.copy_from_slice.new.self ≡ 64 = search rules in
    let q_long : length c.copy_from_slice-2.new.self ≡ 64 = search rules in
    let r_long : length c.copy_from_slice-3.new.self ≡ 64 = search rules in
    four_written c.args.out.now c.copy_from_slice.new.self c.copy_from_slice-2.new.self c.copy_from_slice-3.new.self c.copy_from_slice-4.new.self
    c.requires p_long q_long r_long
    ∙ same_rows first second third fourth
