use Rattle.std.proofs.Common.{lit<, ◌∙◌}
use Rattle.nanorand.proofs.lemmas.chacha.RowLemmas.{same_rows}
use Rattle.nanorand.proofs.crypto.chacha.four_blocks.matrices.Goals as goal

pub returns : goal.returns
returns c =
    let first = c.transposed.ensures in
    let second = c.transposed-2.ensures in
    let third = c.transposed-3.ensures in
    let fourth = c.transposed-4.ensures in (
      c.matrix_of.ensures ∙ same_rows (first 0 (lit< tt)) (second 0 (lit< tt)) (third 0 (lit< tt)) (fourth 0 (lit< tt)),
      c.matrix_of-2.ensures ∙ same_rows (first 1 (lit< tt)) (second 1 (lit< tt)) (third 1 (lit< tt)) (fourth 1 (lit< tt)),
      c.matrix_of-3.ensures ∙ same_rows (first 2 (lit< tt)) (second 2 (lit< tt)) (third 2 (lit< tt)) (fourth 2 (lit< tt)),
      c.matrix_of-4.ensures ∙ same_rows (first 3 (lit< tt)) (second 3 (lit< tt)) (third 3 (lit< tt)) (fourth 3 (lit< tt)),
    )
