use Rattle.std.proofs.Common.{◌≡◌, ◌∙◌, ◌++◌, ℕ, List, Option, None, Some, Result, Ok, Err, true, ap}
use Rattle.std.specs.Io.KnownBytes.{Appends, Keeps}
use Rattle.std.specs.Prelude.{OnOk}
use Rattle.std.specs.Result.{is_ok}
use Rattle.draw_core.proofs.run.write_text.Goals as goal

-- Text that was written, and then kept by the flush, was appended.
appended : (before written after : Option (List ℕ)) (bytes text : List ℕ)
    → Appends before written bytes → Keeps written after → bytes ≡ text → Appends before after text
appended None written after bytes text appends keeps same = tt
appended (Some x) None after bytes text appends keeps same = absurd appends
appended (Some x) (Some y) None bytes text appends keeps same = absurd keeps
appended (Some x) (Some y) (Some z) bytes text appends keeps same = keeps ∙ appends ∙ ap (λ l. x ++ l) same

-- A successful write wrote all bytes.
all_written : {T U E F : Type 0} (wrote : Result T E) (outcome : Result U F) (text bytes : List ℕ)
    (before written after : Option (List ℕ)) → true ≡ is_ok wrote → OnOk wrote (Appends before written bytes) → Keeps written after
    → bytes ≡ text → OnOk outcome (Appends before after text)
all_written (Err error) outcome text bytes before written after is appends keeps same = absurd (cc)
all_written (Ok it) (Err error) text bytes before written after is appends keeps same = tt
all_written (Ok it) (Ok done) text bytes before written after is appends keeps same = appended before written after bytes text appends keeps same

pub returns-clause-written : goal.returns-clause-written
returns-clause-written g c =
    let contents = g.W.Write.contents in
    all_written c.write_all.result c.map_err-2.result c.args.text.now c.as_bytes.result.now (contents c.args.out.now) (contents c.write_all.new.self)
    (contents c.flush.new.self) c.in_ok-map_err.ensures.variant c.write_all.ensures.bytes c.flush.ensures.bytes c.as_bytes.ensures.value
