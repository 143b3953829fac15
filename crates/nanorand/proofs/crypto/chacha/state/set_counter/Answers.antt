use Rattle.std.proofs.Common.{◌/◌, ◌^◌, ap}
use Rattle.std.proofs.lemmas.Nat.{and_mask}
use Rattle.std.specs.List.{slice_set}
use Rattle.nanorand.proofs.crypto.chacha.state.set_counter.Goals as goal

pub returns : goal.returns
returns c = ap (λ low. slice_set (slice_set c.args.state.now 12 low) 13 (c.args.counter / 2 ^ 32)) (and_mask c.args.counter 32)
