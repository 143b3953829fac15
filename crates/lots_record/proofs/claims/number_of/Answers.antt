use Rattle.std.proofs.Common.{◌≡◌, sym, subst, arith}
use Rattle.std.proofs.lemmas.Grind.{common_steps}
use Rattle.lots_core.specs.Arguments.{IsNumber}
use Rattle.lots_core.specs.declared.arguments.Count.TheVariants.{Of}
use Rattle.lots_record.proofs.ClaimLemmas.{digits_are_text}
use Rattle.lots_record.proofs.claims.number_of.Goals as goal

pub returns-in_err-ok-clause-only : goal.returns-in_err-ok-clause-only
returns-in_err-ok-clause-only c = λ n number.
    let text = digits_are_text c.args.digits.now n number in
    grind (arith, common_steps, text)

pub returns-in_err-number-clause-only : goal.returns-in_err-number-clause-only
returns-in_err-number-clause-only c = λ n number.
    let text : c.in_ok-ok.field-0.now ≡ c.args.digits.now = grind (arith, common_steps) in
    let count = c.count_of.ensures.only (Of n) (subst (λ digits. IsNumber digits n) (sym text) number) in
    grind (arith, common_steps, count)
