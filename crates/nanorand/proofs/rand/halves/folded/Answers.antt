use Rattle.std.proofs.Common.{◌/◌, ◌^◌, bit_and, bit_xor, ap, ◌∙◌}
use Rattle.std.proofs.lemmas.Nat.{and_mask}
use Rattle.nanorand.proofs.rand.halves.folded.Goals as goal

pub returns : goal.returns
returns c = ap (bit_xor (c.args.wide / 2 ^ 64)) (ap (bit_and c.args.wide) c.from.ensures ∙ and_mask c.args.wide 64)
