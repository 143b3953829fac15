use Rattle.std.proofs.Common.{◌≡◌, Ok, Err, Some, List, ℕ, Result, arith, subst, ap, sym, ◌∙◌}
use Rattle.std.specs.Prelude.{MatchResult}
use Rattle.std.proofs.lemmas.Grind.{common_steps}
use Rattle.hex.specs.Hex.{decode_sized}
use Rattle.hex.specs.declared.error.FromHexError.{FromHexError}
use Rattle.hex.proofs.HexLemmas.{decode_of-ok, decode_sized-ok, decode_sized-twice}
use Rattle.lots_record.proofs.CheckLemmas.{no_success}
use Rattle.lots_record.proofs.ClaimLemmas.{decoded}
use Rattle.lots_record.proofs.claims.sum_of.Goals as goal

pub returns-in_err-ok-clause-found : goal.returns-in_err-ok-clause-found
returns-in_err-ok-clause-found c = λ sum known is.
    let same = decoded c.args.digits.now sum known is in
    let value = subst (λ r. MatchResult r (λ bytes. (c.decode_to_slice.result ≡ Ok tt) × (c.decode_to_slice.new.out ≡ bytes)) (λ e. c.decode_to_slice.result ≡ Err e)) same c.decode_to_slice.ensures.value in
    grind (arith, common_steps, value)

pub returns-clause-found : goal.returns-clause-found
returns-clause-found c = λ sum known is.
    let same = decoded c.args.digits.now sum known is in
    let value = subst (λ r. MatchResult r (λ bytes. (c.decode_to_slice.result ≡ Ok tt) × (c.decode_to_slice.new.out ≡ bytes)) (λ e. c.decode_to_slice.result ≡ Err e)) same c.decode_to_slice.ensures.value in
    ap Some value.1

-- If the digits are decoded, the sum is what they write.
written : (decoded : Result (List ℕ) FromHexError) (outcome : Result Unit FromHexError) (sum : List ℕ)
    → MatchResult decoded (λ bytes. (outcome ≡ Ok tt) × (sum ≡ bytes)) (λ e. outcome ≡ Err e)
    → outcome ≡ Ok tt → decoded ≡ Ok sum
written (Ok bytes) outcome sum value is = ap Ok (sym value.1)
written (Err e) outcome sum value is = absurd (no_success e tt (sym value ∙ is))

pub returns-clause-sum : goal.returns-clause-sum
returns-clause-sum c =
    let digits = c.args.digits.now in
    let sum = c.decode_to_slice.new.out in
    let done : c.decode_to_slice.result ≡ Ok tt = grind (arith, common_steps) in
    let same = written (decode_sized digits 32) c.decode_to_slice.result sum c.decode_to_slice.ensures.value done in
    let size = decode_sized-ok digits 32 sum same in
    record {
      long = c.decode_to_slice.auto.out;
      bytes = (decode_of-ok digits sum (sym (decode_sized-twice digits 32 size) ∙ same)).3;
    }
