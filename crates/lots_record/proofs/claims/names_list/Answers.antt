use Rattle.std.proofs.Common.{◌≡◌, ◌∙◌, Some, ap, nat_eq, sym}
use Rattle.std.proofs.lemmas.Cmp.{nat_list_eq_equiv}
use Rattle.std.specs.Cmp.Lexicographic.{pointwise, same_text}
use Rattle.std.specs.Option.{option_eq}
use Rattle.sha2.specs.Sha256.{sha256}
use Rattle.lots_record.proofs.SumLemmas.{sha256_is_sum}
use Rattle.lots_record.proofs.claims.names_list.Goals as goal

pub returns : goal.returns
returns c = λ source other n sum rest small few is.
    let ours = sha256 c.args.list.now in
    let named = (c.values_of.ensures source other n sum rest small few is).list in
    let read = c.sum_of.ensures.found (sha256 other) (sha256_is_sum other) named in
    let equal : c.eq.result ≡ pointwise nat_eq (sha256 other) ours =
    c.eq.ensures ∙ ap (λ found. option_eq (pointwise nat_eq) found (Some c.digest.result)) read
    ∙ ap (λ digest. pointwise nat_eq (sha256 other) digest) c.digest.ensures in (
      λ yes. same_text (sha256 other) ours (sym yes ∙ equal),
      λ same. equal ∙ ap (λ digest. pointwise nat_eq digest ours) same ∙ nat_list_eq_equiv.refl ours,
    )
