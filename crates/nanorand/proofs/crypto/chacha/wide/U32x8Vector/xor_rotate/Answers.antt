use Rattle.nanorand.proofs.lemmas.chacha.RowLemmas.{shifts_rotate}
use Rattle.nanorand.proofs.crypto.chacha.wide.U32x8Vector.xor_rotate.Goals as goal

pub returns : goal.returns
returns c = shifts_rotate c.args.n c.requires.0 c.requires.1 8 c.args.self c.args.other c.fits-self.0 c.fits-other.0
