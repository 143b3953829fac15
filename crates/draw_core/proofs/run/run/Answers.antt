use Rattle.std.proofs.Common.{◌≡◌, ◌∙◌, ℕ, List, Option, Result, Err, refl, subst}
use Rattle.std.proofs.lemmas.Result.{err_from_is_err_and, on_ok_weaker, IfErr-weaker, IfErr-at_err}
use Rattle.std.specs.Io.KnownBytes.{Appends}
use Rattle.std.specs.Prelude.{OnOk, IfErr}
use Rattle.draw_core.specs.Arguments.{Asked, AsksFor}
use Rattle.draw_core.specs.Text.{text_asked}
use Rattle.draw_core.specs.declared.error.DrawError.{DrawError}
use Rattle.draw_core.specs.declared.error.DrawError.TheVariants.{BadWord, Write}
use Rattle.draw_core.proofs.run.run.Goals as goal

-- The text that was written is the text that the arguments ask for.
asked_for : {T : Type 0} (outcome : Result T DrawError) (arguments : List (List ℕ)) (bytes text : List ℕ) (before after : Option (List ℕ))
    → OnOk outcome (Appends before after bytes) → bytes ≡ text → ((asked : Asked) → AsksFor arguments asked → text ≡ text_asked asked)
    → OnOk outcome ((asked : Asked) → AsksFor arguments asked → Appends before after (text_asked asked))
asked_for outcome arguments bytes text before after wrote same asks =
    on_ok_weaker outcome (λ appends asked said. subst (Appends before after) (same ∙ asks asked said) appends) wrote

-- A failed write is not a `BadWord`.
not_bad : {T : Type 0} (outcome : Result T DrawError) (k : ℕ) → IfErr outcome (λ error. error ≡ Write) → outcome ≡ Err (BadWord k) → ⊥
not_bad outcome k refusal failed = let error : BadWord k ≡ Write = IfErr-at_err (λ error. error ≡ Write) failed refusal in cc

pub returns-in_err-text : goal.returns-in_err-text
returns-in_err-text g c =
    let error = err_from_is_err_and c.from_residual.result c.from_residual.ensures.1 in
    let made = error.1 in
    let kept = error.2 in
    record {
      readable = rw made tt;
      written = rw made tt;
      bad_word = λ k failed. c.in_err-text.ensures.bad_word k (cc);
      write = λ failed. absurd (c.in_err-text.ensures.not_write (cc));
      early = λ k small first. let told = c.in_err-text.ensures.early k small first in cc;
      untouched = rw made (λ _. refl);
    }

pub returns-clause-written : goal.returns-clause-written
returns-clause-written g c =
    let contents = g.W.Write.contents in
    asked_for c.write_text.result _ c.as_str.result.now _ (contents c.args.out.now) (contents c.write_text.new.out) c.write_text.ensures.written
    c.as_str.ensures.value c.in_ok-text.ensures.text

pub returns-clause-bad_word : goal.returns-clause-bad_word
returns-clause-bad_word g c = λ k failed. absurd (not_bad c.write_text.result k c.write_text.ensures.refusal failed)

pub returns-clause-untouched : goal.returns-clause-untouched
returns-clause-untouched g c = IfErr-weaker c.write_text.result _ _ (λ error write other. absurd (other write)) c.write_text.ensures.refusal
