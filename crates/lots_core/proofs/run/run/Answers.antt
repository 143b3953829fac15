use Rattle.std.proofs.Common.{◌≡◌, ◌∙◌, ℕ, List, ap, subst, sym, refl, arith, rules, ok_or, IsSomeAnd}
use Rattle.std.proofs.Common.{Option, None, Some, Result, Ok, Err}
use Rattle.std.proofs.lemmas.Result.{err_from_is_err_and}
use Rattle.std.specs.Prelude.{IfSome, IsErrAnd, Vec}
use Rattle.lots_core.specs.Arguments.{Asked, AsksFor, asked_by}
use Rattle.lots_core.specs.Lists.{lines_of}
use Rattle.lots_core.specs.Text.{Outcome}
use Rattle.lots_core.specs.declared.arguments.Request.{Request}
use Rattle.lots_core.specs.declared.error.LotsError.{LotsError}
use Rattle.lots_core.specs.declared.error.LotsError.TheVariants.{Usage, TooFew, EmptyLine, Write, Exhausted}
use Rattle.lots_core.proofs.run.run.Goals as goal

-- If the request was found, there is no error.
some_is_no_error : {T E : Type 0} (P : T → Type 0) (found : Option T) (refusal error : E) → IsSomeAnd found P
    → ok_or found refusal ≡ Err error → ⊥
some_is_no_error P None refusal error there is = absurd there
some_is_no_error P (Some it) refusal error there is = search (arith, is)

-- The request that was found is what the arguments ask for.
found_asks : (arguments : List (List ℕ)) (found : Option Request) (request : Request)
    → IfSome found (λ it. AsksFor arguments (asked_by it)) → found ≡ Some request
    → AsksFor arguments (asked_by request)
found_asks arguments found request asks is =
    subst (λ it. IfSome it (λ it. AsksFor arguments (asked_by it))) is asks

-- The error of a result, or `other` if it is not an error.
abbrev error_of : {U E : Type 0} → E → Result U E → E
error_of other (Ok value) = other
error_of other (Err error) = error

-- An error that `?` returns is the error of the call.
passed_on : {U E : Type 0} (result : Result U E) (error named : E)
    → IsErrAnd result (λ it. it ≡ error) → result ≡ Err named → error ≡ named
passed_on (Ok value) error named passed is = absurd passed
passed_on (Err it) error named passed is = sym passed ∙ ap (error_of named) is

-- An error of the draw is the error of the run.
told : {A : Type 0} (draw : Result (Vec ℕ A) LotsError) (result : Result Unit LotsError) (asked : Asked)
    (list bytes : List ℕ) (error : LotsError) → Outcome asked (lines_of bytes) draw → draw ≡ Err error
    → bytes ≡ list → IsErrAnd result (λ it. it ≡ error)
    → (named : LotsError) → result ≡ Err named → Outcome {A = A} asked (lines_of list) (Err named)
told {A} draw result asked list bytes error outcome failed same passed named is =
    subst (λ e. Outcome {A = A} asked (lines_of list) (Err e)) (passed_on result error named passed is)
    (subst (λ it. Outcome {A = A} asked (lines_of it) (Err error)) same
    (subst (Outcome asked (lines_of bytes)) failed outcome))

pub returns-in_err-request-clause-usage : goal.returns-in_err-request-clause-usage
returns-in_err-request-clause-usage g c = λ _ asked asks.
    some_is_no_error _ _ _ _ (c.read.ensures.only asked asks) (sym c.ok_or.ensures.value ∙ c.in_err-request.was)

pub returns-in_err-request-clause-unread : goal.returns-in_err-request-clause-unread
returns-in_err-request-clause-unread g c = λ _. refl

pub returns-in_err-list-clause-unreadable : goal.returns-in_err-list-clause-unreadable
returns-in_err-list-clause-unreadable g c = λ none.
    absurd (none _ (found_asks _ _ _ c.read.ensures.found c.in_ok-request.ensures.ok_part))

pub returns-in_err-map_err-clause-untouched : goal.returns-in_err-map_err-clause-untouched
returns-in_err-map_err-clause-untouched g c = search rules

pub returns-in_err-text : goal.returns-in_err-text
returns-in_err-text g c =
    let passed = c.from_residual-in_err-text.ensures.1 in
    let made = (err_from_is_err_and c.from_residual-in_err-text.result passed).1 in
    let asked = asked_by c.in_ok-request.request in
    let list = c.in_ok-list.list.items in
    let read = c.in_ok-list.ensures.read in
    let asks = found_asks _ _ _ c.read.ensures.found c.in_ok-request.ensures.ok_part in
    let is = told c.select.result c.from_residual-in_err-text.result asked list _ _ c.select.ensures
    c.in_err-text.was c.deref.ensures.value passed in
    record {
      drawn = rw made tt;
      written = rw made tt;
      usage = λ failed. absurd (is Usage failed);
      unread = λ failed. absurd (is Usage failed);
      unreadable = λ none. absurd (none asked asks);
      empty = λ k failed. (list, read, is (EmptyLine k) failed);
      few = λ n k failed. let few = is (TooFew n k) failed in (asked, list, asks, read, few.0, few.1);
      exhausted = λ failed. let refused = is Exhausted failed in (asked, list, asks, read, refused.0, refused.1);
      write = λ failed. absurd (is Write failed);
      untouched = rw made (λ _. refl {a = c.args.out.now});
    }
