use Rattle.std.proofs.Common.{Some, length, ap, sym, ◌∙◌}
use Rattle.std.specs.Cmp.Lexicographic.{same_text}
use Rattle.lots_record.proofs.ClaimLemmas.{four_bytes}
use Rattle.lots_record.proofs.claims.announcement_of.Goals as goal

pub returns-then-eq-clause-found : goal.returns-then-eq-clause-found
returns-then-eq-clause-found c = λ sum known is.
    let none = same_text c.args.text.now c.as_slice.result.now (sym c.if-eq.true ∙ c.eq.ensures) ∙ c.as_slice.ensures in
    ap Some (four_bytes c.args.text.now sum known is (ap length none))
