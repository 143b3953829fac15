-- What a record of a draw excludes, and why a text is refused.
use Rattle.std.proofs.Common.{◌≡◌, ◌⊎◌, inl, inr, Bool, true, ℕ, ◌-◌, ◌<◌, ◌^◌, List, [], ◌++◌, length, codes, Option, Result, Ok, Err, ap, refl, subst, sym, ◌∙◌, arith}
use Rattle.std.specs.Prelude.{Decides, IfErr}
use Rattle.hex.specs.Hex.{encode_lower}
use Rattle.sha2.specs.Sha256.{sha256}
use Rattle.nanorand_core.specs.declared.values.range.RangeError.TheVariants as ranges
use Rattle.lots_core.specs.Arguments.{number_asked}
use Rattle.lots_core.specs.Draws.{drawing, drawn}
use Rattle.lots_core.specs.Lists.{AreFull, IsFirstEmpty, lines_of}
use Rattle.lots_core.specs.Text.{text_of}
use Rattle.lots_core.specs.declared.arguments.Count.TheVariants.{Of}
use Rattle.lots_core.specs.declared.error.LotsError.{LotsError}
use Rattle.lots_core.specs.declared.error.LotsError.TheVariants.{EmptyLine, Exhausted, Memory, Read, TooFew, Usage, Write}
use Rattle.lots_record.specs.Check.{IsFailedDraw, IsRecord, IsRecordOf, IsRefusal}
use Rattle.lots_record.specs.Claims.{CanBeRead, IsClaimed}
use Rattle.lots_record.specs.Record.{HasRecord, IsRefusedWith, Source, drawn_lines, line, source_lines}
use Rattle.lots_record.proofs.Utf8Lemmas.{utf8_bytes}
use Rattle.lots_record.specs.declared.check_error.CheckError.{CheckError}
use Rattle.lots_record.specs.declared.check_error.CheckError.TheVariants.{Differs, Draw, NotAnnounced, OtherAnnouncement, OtherList, Unreadable}
use Rattle.lots_record.specs.declared.claims.Claims.{Claims}
use Rattle.lots_record.specs.declared.record.Source.{Source as ASource}

-- Lines that are all full have no empty one.
pub full_lines : (lines : List (List ℕ)) (k : ℕ) → AreFull lines → IsFirstEmpty lines k → ⊥
full_lines lines k full first = full (k - 1) [] (omega (arith, first.counted, first.there)) first.empty

-- An error is no success.
pub no_success : {E T : Type 0} (error : E) (value : T) → Err error ≡ Ok value → ⊥
no_success error value same = absurd (cc)

-- A draw that has a record is refused only if memory runs out.
pub refused : (asked : ASource) (source : Source) (list : List ℕ) (error : LotsError)
    → asked.seed.now ≡ source.seed → asked.count ≡ Of source.count → HasRecord source list
    → IsRefusedWith asked list error → error ≡ Memory
refused asked source list (EmptyLine k) seed count has is = absurd (full_lines (lines_of list) k has.draw.full is)
refused asked source list (TooFew n k) seed count has is =
    let same : k ≡ source.count = ap (λ c. number_asked c 0) (sym is.1.asked_for ∙ count) in
    absurd (omega (arith, same, has.draw.enough, is.1.there, is.1.fewer))
refused asked source list Exhausted seed count has is =
    let lines = lines_of list in
    let same = ap (λ s. (drawing s (number_asked asked.count (length lines)) lines).answer) seed
    ∙ ap (λ c. (drawing source.seed (number_asked c (length lines)) lines).answer) count in
    absurd (no_success ranges.Exhausted tt (sym is.1 ∙ same ∙ has.draw.answer))
refused asked source list Memory seed count has is = refl
refused asked source list Usage seed count has is = absurd is
refused asked source list Read seed count has is = absurd is
refused asked source list Write seed count has is = absurd is

-- The source of a record can be read back.
pub can_be_read : (source : Source) (list : List ℕ) → HasRecord source list → length (lines_of list) < 2 ^ 64 → CanBeRead source
can_be_read source list has small = record {
  seed = utf8_bytes source.seed has.utf8;
  count = omega (arith, has.draw.enough, small);
  announcement = has.announcement;
  program = has.program;
}

-- What is read from a text, if it is a record.
abbrev Reading : {A : Type 0} → List ℕ → Result (Claims A) CheckError → Type 0
Reading text result =
    (source : Source) (list : List ℕ) (n : ℕ) (sum rest : List ℕ) → n < 2 ^ 64 → CanBeRead source
    → text ≡ source_lines source list n ++ (line (codes "result SHA-256: ") sum ++ rest)
    → IsClaimed source result

-- The source of a record is read from it.
pub claimed : {A : Type 0} (text list : List ℕ) (source : Source) (result : Result (Claims A) CheckError)
    → Reading text result → length (lines_of list) < 2 ^ 64 → IsRecordOf text list source → IsClaimed source result
claimed text list source result reading small of =
    let lines = lines_of list in
    let entrants = drawn source.seed source.count lines in
    reading source list (length lines) (encode_lower (sha256 (text_of entrants))) (drawn_lines entrants)
    small (can_be_read source list of.has small) of.is

-- A record names its list.
pub names_its_list : (text list : List ℕ) (source : Source) (named : Bool)
    → ((source : Source) (other : List ℕ) (n : ℕ) (sum rest : List ℕ) → n < 2 ^ 64 → source.count < 2 ^ 64
    → text ≡ source_lines source other n ++ (line (codes "result SHA-256: ") sum ++ rest)
    → Decides named (sha256 other ≡ sha256 list))
    → length (lines_of list) < 2 ^ 64 → IsRecordOf text list source → named ≡ true
names_its_list text list source named decided small of =
    let lines = lines_of list in
    let entrants = drawn source.seed source.count lines in
    let count : source.count < 2 ^ 64 = omega (arith, of.has.draw.enough, small) in
    (decided source list (length lines) (encode_lower (sha256 (text_of entrants))) (drawn_lines entrants) small count of.is).1 refl

pub record_of : (text list : List ℕ) (announcement : Option (List ℕ)) (known : IsRecord text list announcement)
    → IsRecordOf text list known.source
record_of text list announcement known = record { has = known.has; is = known.is }

-- Different errors.
other_error : Unreadable ≡ Draw Memory → ⊥
other_error same = absurd (cc)

too_few_entrants : (n k : ℕ) → TooFew n k ≡ Memory → ⊥
too_few_entrants n k same = absurd (cc)

exhausted_draw : Exhausted ≡ Memory → ⊥
exhausted_draw same = absurd (cc)

-- A text whose source is not read is refused for that.
pub not_read : (text list : List ℕ) (announcement : Option (List ℕ)) (error : CheckError)
    → ((source : Source) → IsRecordOf text list source → error ≡ Draw Memory)
    → (error ≡ Unreadable) ⊎ (error ≡ Draw Memory) → IsRefusal text list announcement error
not_read text list announcement error known (inl is) =
    subst (IsRefusal text list announcement) (sym is) (λ source of. other_error (sym is ∙ known source of))
not_read text list announcement error known (inr is) = subst (IsRefusal text list announcement) (sym is) tt

-- A draw that fails is refused for that.
pub draw_failed : (asked : ASource) (text list : List ℕ) (error : LotsError) → IsRefusedWith asked list error
    → ((source : Source) → IsRecordOf text list source → (asked.seed.now ≡ source.seed) × (asked.count ≡ Of source.count))
    → IsFailedDraw text list error
draw_failed asked text list (EmptyLine k) is same = is
draw_failed asked text list (TooFew n k) is same = (
  is.1.there,
  is.1.fewer,
  λ source of. too_few_entrants n k
      (refused asked source list (TooFew n k) (same source of).0 (same source of).1 of.has is),
)
draw_failed asked text list Exhausted is same = λ source of.
    exhausted_draw (refused asked source list Exhausted (same source of).0 (same source of).1 of.has is)
draw_failed asked text list Memory is same = tt
draw_failed asked text list Usage is same = absurd is
draw_failed asked text list Read is same = absurd is
draw_failed asked text list Write is same = absurd is

-- A record that agrees is refused only if memory runs out.
failed_draw : (text list : List ℕ) (announcement : Option (List ℕ)) (error : LotsError)
    → IsRecord text list announcement → IsFailedDraw text list error → error ≡ Memory
failed_draw text list announcement (EmptyLine k) known is = absurd (full_lines (lines_of list) k known.has.draw.full is)
failed_draw text list announcement (TooFew n k) known is =
    absurd (is.2 known.source (record_of text list announcement known))
failed_draw text list announcement Exhausted known is =
    absurd (is known.source (record_of text list announcement known))
failed_draw text list announcement Memory known is = refl
failed_draw text list announcement Usage known is = absurd is
failed_draw text list announcement Read known is = absurd is
failed_draw text list announcement Write known is = absurd is

agreed : (text list : List ℕ) (announcement : Option (List ℕ)) (error : CheckError)
    → IsRecord text list announcement → IsRefusal text list announcement error → error ≡ Draw Memory
agreed text list announcement (Draw error) known is = ap Draw (failed_draw text list announcement error known is)
agreed text list announcement Unreadable known is =
    absurd (is known.source (record_of text list announcement known))
agreed text list announcement OtherList known is =
    absurd (is known.source (record_of text list announcement known))
agreed text list announcement Differs known is =
    absurd (is known.source (record_of text list announcement known))
agreed text list announcement OtherAnnouncement known is =
    absurd (is known.source (record_of text list announcement known) known.names)
agreed text list announcement NotAnnounced known is =
    absurd (is known.source (record_of text list announcement known) known.announced)

pub agreed_result : (text list : List ℕ) (announcement : Option (List ℕ)) (result : Result Unit CheckError)
    → IfErr result (IsRefusal text list announcement) → IsRecord text list announcement
    → IfErr result (λ error. error ≡ Draw Memory)
agreed_result text list announcement (Ok done) refusal known = tt
agreed_result text list announcement (Err error) refusal known = agreed text list announcement error known refusal
