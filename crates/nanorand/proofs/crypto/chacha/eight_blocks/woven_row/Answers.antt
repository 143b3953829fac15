use Rattle.std.proofs.Common.{refl, ◌∙◌}
use Rattle.nanorand.proofs.crypto.chacha.eight_blocks.woven_row.Goals as goal

pub returns-clause-first : goal.returns-clause-first
returns-clause-first c = c.woven_pairs.ensures.front ∙ rw (c.woven.ensures.front, c.woven-2.ensures.front) refl

pub returns-clause-second : goal.returns-clause-second
returns-clause-second c = c.woven_pairs.ensures.back ∙ rw (c.woven.ensures.front, c.woven-2.ensures.front) refl

pub returns-clause-third : goal.returns-clause-third
returns-clause-third c = c.woven_pairs-2.ensures.front ∙ rw (c.woven.ensures.back, c.woven-2.ensures.back) refl

pub returns-clause-fourth : goal.returns-clause-fourth
returns-clause-fourth c = c.woven_pairs-2.ensures.back ∙ rw (c.woven.ensures.back, c.woven-2.ensures.back) refl
