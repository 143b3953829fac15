use Rattle.std.proofs.Common.{◌≡◌, ℕ, refl, sym, ap, subst, ◌∙◌, Option, Some, None, Result, Ok, Err}
use Rattle.std.specs.Option.{ok_or}
use Rattle.std.specs.Result.{IsErrAnd}
use Rattle.std.proofs.lemmas.Result.{err_from_is_err_and}
use Rattle.draw_core.specs.declared.error.DrawError.{DrawError}
use Rattle.draw_core.specs.declared.error.DrawError.TheVariants.{BadWord, Write}
use Rattle.draw_core.specs.Arguments.{IsReadable, IsFirstUnreadable, IsSeed, IsCount, AreRequests, FirstBadRequest}
use Rattle.draw_core.specs.Arguments.{generator_of, name_of_generator, asked_by, texts}
use Rattle.draw_core.proofs.lemmas.ReadArguments.{texts_from, same_asked, first_of_all, one_first}
use Rattle.draw_core.proofs.lemmas.ReadArguments.{second_is_bad, third_is_bad, none_is_bad}
use Rattle.draw_core.proofs.command.read.Goals as goal

-- If `ok_or` returns an error, the option was `None`, and the error is the one passed on.
refused : {T R : Type 0} (option : Option T) (error kept : DrawError) (result : Result R DrawError) → Err kept
    ≡ ok_or option error → IsErrAnd result (λ made. made ≡ kept) → (option ≡ None) × (result ≡ Err error)
refused None error kept result value failed =
    let made = err_from_is_err_and result failed in
    let same = made.1 in let handed = made.2 in (refl, cc)
refused (Some x) error kept result value failed = absurd (cc)

-- The error that `?` returns is the error of the result.
handed_on : {T R : Type 0} (result : Result R DrawError) (kept error : DrawError)
    → IsErrAnd result (λ made. made ≡ kept) → result ≡ Err error → let given : Result T DrawError = Err kept in given
    ≡ Err error
handed_on result kept error failed same =
    let made = err_from_is_err_and result failed in
    let first = made.1 in let handed = made.2 in cc

-- If the error of the result is known, `?` returns that error.
told : {R : Type 0} (result : Result R DrawError) (kept error : DrawError) → IsErrAnd result (λ made. made ≡ kept) → kept ≡ error → result ≡ Err error
told result kept error failed is =
    let made = err_from_is_err_and result failed in
    let first = made.1 in let handed = made.2 in cc

same_count : (x y : ℕ) → (let given : Result ℕ DrawError = Ok x in given ≡ Ok y) → y ≡ x
same_count x y same = cc

no_value : {T : Type 0} (option : Option T) (x : T) → option ≡ None → option ≡ Some x → ⊥
no_value option x none some = cc

one_value : {T : Type 0} (option : Option T) (x y : T) → option ≡ Some x → option ≡ Some y → x ≡ y
one_value option x y one other = cc

not_write : {R : Type 0} (result : Result R DrawError) (k : ℕ) → result ≡ Err (BadWord k) → result ≡ Err Write → ⊥
not_write result k bad write = cc

one_word : {R : Type 0} (result : Result R DrawError) (k n : ℕ) → result ≡ Err (BadWord k) → result ≡ Err (BadWord n) → k ≡ n
one_word result k n one other = cc

no_error : {R : Type 0} (x : R) (error : DrawError) → Ok x ≡ Err error → ⊥
no_error x error same = cc

pub returns-in_err-seeded : goal.returns-in_err-seeded
returns-in_err-seeded g c =
    let arguments = texts c.args.arguments.now in
    let named = sym c.argument.ensures ∙ rw c.in_ok-generator.ensures.ok_part at c.generator_named.ensures.found in
    let refusal = refused c.seeded_generator.result (BadWord 2) c.in_err-seeded.field-0.0
    c.from_residual-in_err-seeded.result c.in_err-seeded.ensures.value c.from_residual-in_err-seeded.ensures.1 in
    let bad : IsReadable arguments 1 → ⊥ = λ said. no_value c.seeded_generator.result said.0 refusal.0
    (c.seeded_generator.ensures.only said.0
    (one_value c.generator_named.result _ _
    (c.generator_named.ensures.only (generator_of said.0) (c.argument.ensures ∙ said.1))
    c.in_ok-generator.ensures.ok_part) (subst (λ t. IsSeed t said.0) (sym c.argument-2.ensures) said.2)) in
    let first = second_is_bad arguments (c.in_ok-generator.generator, named) bad in
    record {
      said = rw refusal.1 tt;
      only = rw refusal.1 tt;
      not_write = not_write _ _ refusal.1;
      bad = λ k same. subst (IsFirstUnreadable arguments) (one_word _ _ _ refusal.1 same) first;
      early = λ k small other. rw (← one_first arguments 2 k first other) refusal.1;
    }

pub returns-in_err-mode : goal.returns-in_err-mode
returns-in_err-mode g c =
    let arguments = texts c.args.arguments.now in
    let named = sym c.argument.ensures ∙ rw c.in_ok-generator.ensures.ok_part at c.generator_named.ensures.found in
    let seeded = rw c.in_ok-seeded.ensures.ok_part at c.seeded_generator.ensures.found in
    let refusal = refused c.mode_of.result (BadWord 3) c.in_err-mode.field-0.0 c.from_residual-in_err-mode.result
    c.in_err-mode.ensures.value c.from_residual-in_err-mode.ensures.1 in
    let bad : IsReadable arguments 2 → ⊥ = λ said. no_value c.mode_of.result said.0 refusal.0 (c.mode_of.ensures.only said.0 (c.argument-3.ensures ∙ said.1)) in
    let first = third_is_bad arguments (c.in_ok-generator.generator, named) (
      c.in_ok-seeded.seeded,
      named ∙ ap name_of_generator (sym seeded.0),
      subst (λ t. IsSeed t c.in_ok-seeded.seeded) c.argument-2.ensures seeded.1,
    ) bad in
    record {
      said = rw refusal.1 tt;
      only = rw refusal.1 tt;
      not_write = not_write _ _ refusal.1;
      bad = λ k same. subst (IsFirstUnreadable arguments) (one_word _ _ _ refusal.1 same) first;
      early = λ k small other. rw (← one_first arguments 3 k first other) refusal.1;
    }

pub returns-in_err-calls : goal.returns-in_err-calls
returns-in_err-calls g c =
    let arguments = texts c.args.arguments.now in
    let named = sym c.argument.ensures ∙ rw c.in_ok-generator.ensures.ok_part at c.generator_named.ensures.found in
    let seeded = rw c.in_ok-seeded.ensures.ok_part at c.seeded_generator.ensures.found in
    let mode = sym c.argument-3.ensures ∙ rw c.in_ok-mode.ensures.ok_part at c.mode_of.ensures.found in
    let count = c.in_ok-count.ensures.found in
    let failed = c.from_residual-in_err-calls.ensures.1 in
    let made = (err_from_is_err_and c.from_residual-in_err-calls.result failed).1 in
    record {
      said = rw made tt;
      only = rw made tt;
      not_write = λ same. c.in_err-calls.ensures.not_write (handed_on _ _ _ failed same);
      bad = λ k same.
          let bad = c.in_err-calls.ensures.bad k (handed_on _ _ _ failed same) in
          first_of_all arguments k (c.in_ok-generator.generator, named) (
            c.in_ok-seeded.seeded,
            named ∙ ap name_of_generator (sym seeded.0),
            subst (λ t. IsSeed t c.in_ok-seeded.seeded) c.argument-2.ensures seeded.1,
          ) (c.in_ok-mode.mode, mode)
          (c.in_ok-count.count, subst (λ t. IsCount t c.in_ok-count.count) c.argument-4.ensures count)
          (subst (λ ws. FirstBadRequest ws k) (texts_from 4 c.args.arguments.now) bad);
      early = λ k small first. absurd (none_is_bad arguments (c.in_ok-generator.generator, named) (
        c.in_ok-seeded.seeded,
        named ∙ ap name_of_generator (sym seeded.0),
        subst (λ t. IsSeed t c.in_ok-seeded.seeded) c.argument-2.ensures seeded.1,
      ) (c.in_ok-mode.mode, mode)
          (c.in_ok-count.count, subst (λ t. IsCount t c.in_ok-count.count) c.argument-4.ensures count) k small first);
    }

pub returns : goal.returns
returns g c =
    let arguments = texts c.args.arguments.now in
    let named = sym c.argument.ensures ∙ rw c.in_ok-generator.ensures.ok_part at c.generator_named.ensures.found in
    let seeded = rw c.in_ok-seeded.ensures.ok_part at c.seeded_generator.ensures.found in
    let mode = sym c.argument-3.ensures ∙ rw c.in_ok-mode.ensures.ok_part at c.mode_of.ensures.found in
    let count = c.in_ok-count.ensures.found in
    record {
      said = record {
        generator = named ∙ ap name_of_generator (sym seeded.0);
        seed = subst (λ t. IsSeed t c.in_ok-seeded.seeded) c.argument-2.ensures seeded.1;
        mode = mode;
        count = subst (λ t. IsCount t c.in_ok-count.count) c.argument-4.ensures count;
        requests = subst (λ ws. AreRequests ws c.in_ok-calls.calls.items) (texts_from 4 c.args.arguments.now) c.in_ok-calls.ensures.said;
      };
      only = λ other said.
          let generator = one_value c.generator_named.result _ _
          (c.generator_named.ensures.only (generator_of other.generator) (c.argument.ensures ∙ said.generator))
          c.in_ok-generator.ensures.ok_part in
          same_asked other (asked_by (record {
            generator = c.in_ok-seeded.seeded;
            mode = c.in_ok-mode.mode;
            count = c.in_ok-count.count;
            calls = c.in_ok-calls.calls;
          }))
          (one_value c.seeded_generator.result _ _
          (c.seeded_generator.ensures.only other.generator generator
          (subst (λ t. IsSeed t other.generator) (sym c.argument-2.ensures) said.seed))
          c.in_ok-seeded.ensures.ok_part)
          (one_value c.mode_of.result _ _ (c.mode_of.ensures.only other.mode (c.argument-3.ensures ∙ said.mode)) c.in_ok-mode.ensures.ok_part)
          (same_count _ _ (c.in_ok-count.ensures.only other.count (subst (λ t. IsCount t other.count) (sym c.argument-4.ensures) said.count)))
          (c.in_ok-calls.ensures.only other.calls (subst (λ ws. AreRequests ws other.calls) (sym (texts_from 4 c.args.arguments.now)) said.requests));
      not_write = no_error _ _;
      bad = λ k same. absurd (no_error _ _ same);
      early = λ k small first. absurd (none_is_bad arguments (c.in_ok-generator.generator, named) (
        c.in_ok-seeded.seeded,
        named ∙ ap name_of_generator (sym seeded.0),
        subst (λ t. IsSeed t c.in_ok-seeded.seeded) c.argument-2.ensures seeded.1,
      ) (c.in_ok-mode.mode, mode)
          (c.in_ok-count.count, subst (λ t. IsCount t c.in_ok-count.count) c.argument-4.ensures count) k small first);
    }
