use Rattle.std.proofs.Common.{◌≡◌, ◌<◌, ◌^◌, Bor, List, ℕ, Err, length, nat_eq, ap, sym, subst, ◌∙◌, arith}
use Rattle.std.specs.Str.{IsUtf8}
use Rattle.std.proofs.lemmas.Grind.{common_steps}
use Rattle.std.specs.Cmp.Lexicographic.{pointwise, same_text}
use Rattle.std.proofs.lemmas.Cmp.{nat_list_eq_equiv}
use Rattle.std.proofs.lemmas.List.{nil_from_length}
use Rattle.lots_core.specs.declared.arguments.Count.TheVariants.{Of}
use Rattle.lots_core.specs.Lists.{lines_of}
use Rattle.lots_record.specs.Check.{IsAnnounced, IsNoRecord, IsRecordOf, NamesAnnouncement, given}
use Rattle.lots_record.specs.Claims.{IsClaimed}
use Rattle.lots_record.specs.Record.{HasRecord, Source, record_text, source_of}
use Rattle.lots_record.specs.declared.check_error.CheckError.TheVariants.{Differs, NotAnnounced, OtherAnnouncement, OtherList, Unreadable}
use Rattle.lots_record.specs.declared.claims.Claims.{Claims}
use Rattle.lots_record.specs.declared.record.Source.{Source as ASource}
use Rattle.lots_record.proofs.CheckLemmas.{agreed_result, claimed, draw_failed, names_its_list, not_read}
use Rattle.lots_record.proofs.ClaimLemmas.{one_answer}
use Rattle.lots_record.proofs.check.check.Goals as goal

pub returns-in_err-claims-clause-refusal : goal.returns-in_err-claims-clause-refusal
returns-in_err-claims-clause-refusal g c =
    let text = c.args.text.now in
    let list = c.args.list.now in
    let small : length (lines_of list) < 2 ^ 64 = grind (arith, common_steps) in
    let known : (source : Source) → IsRecordOf text list source → IsClaimed source c.claims_of.result =
    λ source of. claimed text list source c.claims_of.result c.claims_of.ensures.found small of in
    let refusal = not_read text list (given c.args.announcement) c.in_err-claims.field-0.0
    (λ source of. grind (arith, common_steps, known source of)) c.in_err-claims.ensures.error in
    grind (arith, common_steps, refusal)

pub returns-in_err-claims-clause-only : goal.returns-in_err-claims-clause-only
returns-in_err-claims-clause-only g c =
    agreed_result c.args.text.now c.args.list.now (given c.args.announcement) c.from_residual-in_err-claims.result (returns-in_err-claims-clause-refusal g c)

pub returns-then-not-names_list-clause-refusal : goal.returns-then-not-names_list-clause-refusal
returns-then-not-names_list-clause-refusal g c = λ source of.
    let list = c.args.list.now in
    let small : length (lines_of list) < 2 ^ 64 = grind (arith, common_steps) in
    let named = names_its_list c.args.text.now list source c.names_list.result c.names_list.ensures small of in
    one_answer c.names_list.result named c.if-not-names_list.true

pub returns-then-not-names_list-clause-only : goal.returns-then-not-names_list-clause-only
returns-then-not-names_list-clause-only g c =
    agreed_result c.args.text.now c.args.list.now (given c.args.announcement) (Err OtherList) (returns-then-not-names_list-clause-refusal g c)

pub returns-then-not-names-clause-refusal : goal.returns-then-not-names-clause-refusal
returns-then-not-names-clause-refusal g c = λ source of names.
    let text = c.args.text.now in
    let list = c.args.list.now in
    let small : length (lines_of list) < 2 ^ 64 = grind (arith, common_steps) in
    let known = claimed text list source c.claims_of.result c.claims_of.ensures.found small of in
    let same : c.in_ok-claims.claims.announcement ≡ source.announcement = grind (arith, common_steps, known) in
    let named = subst (NamesAnnouncement (given c.args.announcement)) (sym same) names in
    one_answer c.names.result (c.names.ensures.1 named) c.if-not-names.true

pub returns-then-not-names-clause-only : goal.returns-then-not-names-clause-only
returns-then-not-names-clause-only g c =
    agreed_result c.args.text.now c.args.list.now (given c.args.announcement) (Err OtherAnnouncement) (returns-then-not-names-clause-refusal g c)

pub returns-then-not-branch-clause-refusal : goal.returns-then-not-branch-clause-refusal
returns-then-not-branch-clause-refusal g c = λ source of announced.
    let text = c.args.text.now in
    let list = c.args.list.now in
    let small : length (lines_of list) < 2 ^ 64 = grind (arith, common_steps) in
    let known = claimed text list source c.claims_of.result c.claims_of.ensures.found small of in
    let same : c.in_ok-claims.claims.count ≡ source.count = grind (arith, common_steps, known) in
    let is = subst (λ count. IsAnnounced (given c.args.announcement) list count) (sym same) announced in
    one_answer c.in_ok-is_announced.field-0 (c.in_ok-is_announced.ensures.1 is) c.if-not-branch.true

pub returns-then-not-branch-clause-only : goal.returns-then-not-branch-clause-only
returns-then-not-branch-clause-only g c =
    agreed_result c.args.text.now c.args.list.now (given c.args.announcement) (Err NotAnnounced) (returns-then-not-branch-clause-refusal g c)

pub returns-in_err-entrants-clause-refusal : goal.returns-in_err-entrants-clause-refusal
returns-in_err-entrants-clause-refusal g c =
    let first = c.in_err-entrants.ensures.refusal in
    let empty = c.in_err-entrants.ensures.empty first.0 (ap Err first.1) in
    grind (arith, common_steps, first, empty)

pub returns-in_err-entrants-clause-only : goal.returns-in_err-entrants-clause-only
returns-in_err-entrants-clause-only g c =
    agreed_result c.args.text.now c.args.list.now (given c.args.announcement) c.from_residual.result (returns-in_err-entrants-clause-refusal g c)

pub returns-in_err-seed-clause-refusal : goal.returns-in_err-seed-clause-refusal
returns-in_err-seed-clause-refusal g c =
    let text = c.args.text.now in
    let list = c.args.list.now in
    let small : length (lines_of list) < 2 ^ 64 = grind (arith, common_steps) in
    let none : IsNoRecord text list = λ source of.
    let known = claimed text list source c.claims_of.result c.claims_of.ensures.found small of in
    let same : c.in_ok-claims.claims.seed.items ≡ source.seed = grind (arith, common_steps, known) in
    let utf8 = subst IsUtf8 (sym (c.deref.ensures.value ∙ same)) of.has.utf8 in
    grind (arith, common_steps, utf8) in
    grind (arith, common_steps, none)

pub returns-in_err-seed-clause-only : goal.returns-in_err-seed-clause-only
returns-in_err-seed-clause-only g c =
    agreed_result c.args.text.now c.args.list.now (given c.args.announcement) c.from_residual-in_err-seed.result (returns-in_err-seed-clause-refusal g c)

pub returns-then-is_empty-clause-refusal : goal.returns-then-is_empty-clause-refusal
returns-then-is_empty-clause-refusal g c = λ source of.
    let text = c.args.text.now in
    let list = c.args.list.now in
    let small : length (lines_of list) < 2 ^ 64 = grind (arith, common_steps) in
    let known = claimed text list source c.claims_of.result c.claims_of.ensures.found small of in
    let seed : c.in_ok-seed.seed.now ≡ source.seed = grind (arith, common_steps, known) in
    of.has.some (sym seed ∙ nil_from_length c.in_ok-seed.seed.now (grind (arith, c.is_empty.ensures, c.if-is_empty.true)))

pub returns-then-is_empty-clause-only : goal.returns-then-is_empty-clause-only
returns-then-is_empty-clause-only g c =
    agreed_result c.args.text.now c.args.list.now (given c.args.announcement) (Err Unreadable) (returns-then-is_empty-clause-refusal g c)

-- The source that is drawn with is that of a record.
abbrev read_source : {A : Type 0} → Bor (List ℕ) → Claims A → ASource
read_source seed claims =
    record { seed = seed; count = Of claims.count; announcement = claims.announcement; program = claims.program }

pub returns-in_err-record-clause-refusal : goal.returns-in_err-record-clause-refusal
returns-in_err-record-clause-refusal g c =
    let text = c.args.text.now in
    let list = c.args.list.now in
    let small : length (lines_of list) < 2 ^ 64 = grind (arith, common_steps) in
    let same : (source : Source) → IsRecordOf text list source → (c.in_ok-seed.seed.now ≡ source.seed) × (Of c.in_ok-claims.claims.count ≡ Of source.count) = λ source of.
    let known = claimed text list source c.claims_of.result c.claims_of.ensures.found small of in
    let count : c.in_ok-claims.claims.count ≡ source.count = grind (arith, common_steps, known) in
    (grind (arith, common_steps, known), ap Of count) in
    let refusal = draw_failed (read_source c.in_ok-seed.seed c.in_ok-claims.claims) text list c.in_err-record.field-0.0 c.in_err-record.ensures same in
    grind (arith, common_steps, refusal)

pub returns-in_err-record-clause-only : goal.returns-in_err-record-clause-only
returns-in_err-record-clause-only g c =
    agreed_result c.args.text.now c.args.list.now (given c.args.announcement) c.from_residual-in_err-record.result (returns-in_err-record-clause-refusal g c)

pub returns-clause-refusal : goal.returns-clause-refusal
returns-clause-refusal g c = λ source of.
    let text = c.args.text.now in
    let list = c.args.list.now in
    let lines = lines_of list in
    let small : length lines < 2 ^ 64 = grind (arith, common_steps) in
    let known = claimed text list source c.claims_of.result c.claims_of.ensures.found small of in
    let claims = c.in_ok-claims.claims in
    let seed : c.in_ok-seed.seed.now ≡ source.seed = grind (arith, common_steps, known) in
    let count : claims.count ≡ source.count = grind (arith, common_steps, known) in
    let announcement : claims.announcement ≡ source.announcement = grind (arith, common_steps, known) in
    let program : claims.program ≡ source.program = grind (arith, common_steps, known) in
    let same : source_of (read_source c.in_ok-seed.seed claims) (length lines) ≡ source =
    λ i. record { seed = seed i; count = count i; announcement = announcement i; program = program i } in
    let written = c.in_ok-record.ensures.1 ∙ ap (λ s. record_text s list) same ∙ sym of.is in
    let equal = c.eq.ensures ∙ ap (λ it. pointwise nat_eq it text) (c.as_bytes.ensures.value ∙ written) ∙ nat_list_eq_equiv.refl text in
    one_answer c.eq.result equal c.if-eq.false

pub returns-clause-only : goal.returns-clause-only
returns-clause-only g c =
    agreed_result c.args.text.now c.args.list.now (given c.args.announcement) (Err Differs) (returns-clause-refusal g c)

pub returns-then-eq-clause-agrees : goal.returns-then-eq-clause-agrees
returns-then-eq-clause-agrees g c =
    let written = c.in_ok-record.ensures in
    let claims = c.in_ok-claims.claims in
    let sums = c.in_ok-claims.ensures.sums in
    let utf8 : IsUtf8 c.in_ok-seed.seed.now = grind (arith, common_steps) in
    let source : Source = record { seed = c.in_ok-seed.seed.now; count = claims.count; announcement = claims.announcement; program = claims.program } in
    let has : HasRecord source c.args.list.now = record {
      some = λ none. grind (arith, none, c.is_empty.ensures, c.if-is_empty.false);
      utf8 = utf8;
      announcement = sums.announcement;
      program = sums.program;
      draw = written.0;
    } in record {
      source = source;
      has = has;
      names = c.names.ensures.0 c.if-not-names.false;
      announced = c.in_ok-is_announced.ensures.0 c.if-not-branch.false;
      is = sym (same_text (c.as_bytes.result.now) c.args.text.now (sym c.if-eq.true ∙ c.eq.ensures)) ∙ c.as_bytes.ensures.value ∙ written.1;
    }
