-- Facts that hold on success.
use Rattle.std.proofs.Common.{Result}
use Rattle.std.specs.Result.{OnOk}
use Rattle.std.proofs.lemmas.Result.{on_ok_weaker}
use Rattle.nanorand_core.specs.declared.values.range.RangeError.{RangeError}

-- The lemma of std with the fact as the first argument, which determines what follows from it.
pub on_ok : {P Q : Type 0} (result : Result (Unit {0}) RangeError) → OnOk result P → (P → Q) → OnOk result Q
on_ok result fact follows = on_ok_weaker result follows fact
