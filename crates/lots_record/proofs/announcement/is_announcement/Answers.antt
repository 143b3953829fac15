use Rattle.std.proofs.Common.{◌≡◌, ◌<◌, ◌^◌, true, false, Some, None, Option, Ok, nat_eq, length, ap, sym, subst, refl, ◌∙◌, arith}
use Rattle.std.proofs.lemmas.Grind.{common_steps}
use Rattle.std.proofs.lemmas.Cmp.{nat_list_eq_equiv}
use Rattle.std.specs.Cmp.Lexicographic.{pointwise, same_text}
use Rattle.lots_core.specs.Lists.{lines_of}
use Rattle.lots_record.specs.Announcement.{Announces, Plan, ReadsTexts, text_of}
use Rattle.lots_record.proofs.ClaimLemmas.{one_answer, writes_number}
use Rattle.lots_record.proofs.announcement.is_announcement.Goals as goal

-- No is told of what is not.
no : (P : Type 0) → (P → ⊥) → (false ≡ true → P) × (P → false ≡ true)
no P none = (λ is. absurd (one_answer false is refl), λ holds. absurd (none holds))

some_same : {T : Type 0} (found : Option T) (one other : T) → found ≡ Some one → found ≡ Some other → one ≡ other
some_same None one other is also = absurd (cc)
some_same (Some it) one other is also = cc

none_is_none : {T : Type 0} (found : Option T) (value : T) → found ≡ None → found ≡ Some value → ⊥
none_is_none None value is isnt = absurd (cc)
none_is_none (Some other) value is isnt = absurd (cc)

pub returns-in_default : goal.returns-in_default
returns-in_default g c =
    let small : length (lines_of c.args.list.now) < 2 ^ 64 = omega (arith, c.requires, c.ranges.entrants.fits) in
    no _ (λ known.
    let lines = c.lines_in-lines.ensures known.plan c.args.list.now (length (lines_of c.args.list.now)) small known.is_text known.is in
    none_is_none c.number_of.result known.plan.winners c.in_default.is
    (c.number_of.ensures.only known.plan.winners (writes_number _ known.plan.winners known.is_text.winners lines.winners)))

pub returns-in_default-number_of : goal.returns-in_default-number_of
returns-in_default-number_of g c =
    let small : length (lines_of c.args.list.now) < 2 ^ 64 = omega (arith, c.requires, c.ranges.entrants.fits) in
    no _ (λ known.
    let lines = c.lines_in-lines.ensures known.plan c.args.list.now (length (lines_of c.args.list.now)) small known.is_text known.is in
    none_is_none c.number_of-2.result known.plan.reserves c.in_default-number_of.is
    (c.number_of-2.ensures.only known.plan.reserves (writes_number _ known.plan.reserves known.is_text.reserves lines.reserves)))

pub returns-in_err-texts : goal.returns-in_err-texts
returns-in_err-texts g c =
    let error = c.texts_of.ensures.error in
    grind (arith, common_steps, error)

pub returns-in_default-2 : goal.returns-in_default-2
returns-in_default-2 g c =
    let small : length (lines_of c.args.list.now) < 2 ^ 64 = omega (arith, c.requires, c.ranges.entrants.fits) in
    no _ (λ known.
    let lines = c.lines_in-lines.ensures known.plan c.args.list.now (length (lines_of c.args.list.now)) small known.is_text known.is in
    subst (λ found. ReadsTexts known.plan (Ok found)) c.in_default-2.is (c.in_ok-texts.ensures.found known.plan known.is_text lines))

pub returns-then-not-announces : goal.returns-then-not-announces
returns-then-not-announces g c =
    let small : length (lines_of c.args.list.now) < 2 ^ 64 = omega (arith, c.requires, c.ranges.entrants.fits) in
    let found : Plan = record {
      occasion = c.as_str.result.now;
      winners = c.in-Some.winners;
      reserves = c.in-Some-number_of.reserves;
      source = c.as_str-2.result.now;
      form = c.as_str-3.result.now;
      example = c.as_str-4.result.now;
      time = c.as_str-5.result.now;
    } in
    no _ (λ known.
    let lines = c.lines_in-lines.ensures known.plan c.args.list.now (length (lines_of c.args.list.now)) small known.is_text known.is in
    let texts = subst (λ found. ReadsTexts known.plan (Ok found)) c.in-Some-2.is (c.in_ok-texts.ensures.found known.plan known.is_text lines) in
    let winners = some_same c.number_of.result c.in-Some.winners known.plan.winners c.in-Some.is
    (c.number_of.ensures.only known.plan.winners (writes_number _ known.plan.winners known.is_text.winners lines.winners)) in
    let reserves = some_same c.number_of-2.result c.in-Some-number_of.reserves known.plan.reserves c.in-Some-number_of.is
    (c.number_of-2.ensures.only known.plan.reserves (writes_number _ known.plan.reserves known.is_text.reserves lines.reserves)) in
    let occasion = c.as_str.ensures.value ∙ texts.0 in
    let source = c.as_str-2.ensures.value ∙ texts.1 in
    let form = c.as_str-3.ensures.value ∙ texts.2 in
    let example = c.as_str-4.ensures.value ∙ texts.3 in
    let time = c.as_str-5.ensures.value ∙ texts.4 in
    let same : found ≡ known.plan = λ i. record {
      occasion = occasion i;
      winners = winners i;
      reserves = reserves i;
      source = source i;
      form = form i;
      example = example i;
      time = time i;
    } in
    let announces = subst (λ plan. Announces plan c.args.count) (sym same) known.announces in
    one_answer c.announces.result (c.announces.ensures.1 announces) c.if-not-announces.true)

pub returns : goal.returns
returns g c =
    let small : length (lines_of c.args.list.now) < 2 ^ 64 = omega (arith, c.requires, c.ranges.entrants.fits) in
    let found : Plan = record {
      occasion = c.as_str.result.now;
      winners = c.in-Some.winners;
      reserves = c.in-Some-number_of.reserves;
      source = c.as_str-2.result.now;
      form = c.as_str-3.result.now;
      example = c.as_str-4.result.now;
      time = c.as_str-5.result.now;
    } in
    let written = c.in_ok-text_for.ensures ∙ ap (text_of found c.args.list.now) c.requires in (
      λ equal. record {
        plan = found;
        is_text = record {
          occasion = c.as_str.utf8;
          source = c.as_str-2.utf8;
          form = c.as_str-3.utf8;
          example = c.as_str-4.utf8;
          time = c.as_str-5.utf8;
          winners = omega arith;
          reserves = omega arith;
        };
        announces = c.announces.ensures.0 c.if-not-announces.false;
        is = sym (same_text c.as_bytes.result.now c.args.text.now (sym equal ∙ c.eq.ensures)) ∙ c.as_bytes.ensures.value ∙ written;
      },
      λ known.
          let lines = c.lines_in-lines.ensures known.plan c.args.list.now (length (lines_of c.args.list.now)) small known.is_text known.is in
          let texts = subst (λ found. ReadsTexts known.plan (Ok found)) c.in-Some-2.is (c.in_ok-texts.ensures.found known.plan known.is_text lines) in
          let winners = some_same c.number_of.result c.in-Some.winners known.plan.winners c.in-Some.is
          (c.number_of.ensures.only known.plan.winners (writes_number _ known.plan.winners known.is_text.winners lines.winners)) in
          let reserves = some_same c.number_of-2.result c.in-Some-number_of.reserves known.plan.reserves c.in-Some-number_of.is
          (c.number_of-2.ensures.only known.plan.reserves (writes_number _ known.plan.reserves known.is_text.reserves lines.reserves)) in
          let occasion = c.as_str.ensures.value ∙ texts.0 in
          let source = c.as_str-2.ensures.value ∙ texts.1 in
          let form = c.as_str-3.ensures.value ∙ texts.2 in
          let example = c.as_str-4.ensures.value ∙ texts.3 in
          let time = c.as_str-5.ensures.value ∙ texts.4 in
          let same : found ≡ known.plan = λ i. record {
            occasion = occasion i;
            winners = winners i;
            reserves = reserves i;
            source = source i;
            form = form i;
            example = example i;
            time = time i;
          } in
          let is = c.as_bytes.ensures.value ∙ written ∙ ap (λ plan. text_of plan c.args.list.now (length (lines_of c.args.list.now))) same ∙ sym known.is in
          c.eq.ensures ∙ ap (λ text. pointwise nat_eq text c.args.text.now) is ∙ nat_list_eq_equiv.refl c.args.text.now,
    )
