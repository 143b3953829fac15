use Rattle.std.proofs.Common.{Some, ap, arith}
use Rattle.lots_record.proofs.ClaimLemmas.{no_bytes}
use Rattle.lots_record.proofs.claims.program_of.Goals as goal

pub returns-then-is_empty-clause-found : goal.returns-then-is_empty-clause-found
returns-then-is_empty-clause-found c = λ sum known is.
    ap Some (no_bytes c.args.text.now sum known is (grind (arith, c.is_empty.ensures, c.if-is_empty.true)))
