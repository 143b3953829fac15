use Rattle.std.proofs.Common.{◌≡◌, ◌-◌, ◌∙◌, ap, sym, nat_le, nat_lt, ◌==◌, int_le, int_lt, refl, inl, inr, arith}
use Rattle.std.specs.List.{range_with_len}
use Rattle.std.specs.declared.ops.Bound.TheVariants.{Included, Excluded}
use Rattle.std.proofs.lemmas.Bool.{cases_lt}
use Rattle.std.proofs.lemmas.List.{map-id}
use Rattle.std.specs.Ordering.{int_eq}
use Rattle.nanorand_core.specs.values.Range.{unsigned_number, signed_number}
use Rattle.nanorand_core.proofs.lemmas.ranges.RangeFairnessLemmas.{int_eq-signed, list_words, range_words}
use Rattle.nanorand_core.proofs.lemmas.ranges.RangeLemmas.{range-empty, range-places}
use Rattle.nanorand_core.proofs.laws.ranges_are_fair.Goals as goal

pub returns-clause-unsigned : goal.returns-clause-unsigned
returns-clause-unsigned g c = λ bits low high x _ fits admits.
    range_words nat_le nat_lt bits unsigned_number low high x fits admits (λ y. y == x) (λ j. refl)

pub returns-clause-signed : goal.returns-clause-signed
returns-clause-signed g c = λ bits low high x _ number admits.
    range_words int_le int_lt bits (signed_number bits) low high number.0 number.1 (rw number.2 admits) (λ y. int_eq y x) (λ j. rw (← number.2) (int_eq-signed bits j number.0))

pub returns-clause-events : goal.returns-clause-events
returns-clause-events g c = λ bits numbers test _ some fits. list_words test bits numbers some fits

pub returns-clause-indices : goal.returns-clause-indices
returns-clause-indices g c = λ bits n fits. elim (cases_lt 0 n) [
  | inl some ↦
      let whole : n - 0 ≡ n = omega arith in
      range-places nat_le nat_lt bits unsigned_number (Included 0) (Excluded n) 0 n (λ k. refl) (λ k in_type. refl) fits some
      ∙ map-id (range_with_len 0 (n - 0)) ∙ ap (range_with_len 0) whole
  | inr none ↦
      let zero_is : n ≡ 0 = omega arith in
      range-empty nat_le nat_lt bits unsigned_number (Included 0) (Excluded n) 0 n (λ k. refl) (λ k in_type. refl) fits none
      ∙ ap (range_with_len 0) (sym zero_is)
]
