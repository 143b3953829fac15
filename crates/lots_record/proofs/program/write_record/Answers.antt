use Rattle.std.proofs.Common.{ap, ◌≡◌, ◌∙◌, List, ℕ, Option, None, length, subst, string_bytes}
use Rattle.std.specs.Io.KnownBytes.{Appends}
use Rattle.lots_core.specs.Arguments.{number_asked}
use Rattle.lots_core.specs.Lists.{lines_of}
use Rattle.lots_core.specs.declared.arguments.Request.{Request}
use Rattle.lots_record.specs.Check.{IsAnnounced, given}
use Rattle.lots_record.specs.Record.{IsDrawable, Source, record_text}
use Rattle.lots_record.proofs.program.write_record.Goals as goal

-- The source of a request with this sum of an announcement.
abbrev source_with : Request → Option (List ℕ) → List ℕ → Source
source_with request sum list = record {
  seed = request.seed.now;
  count = number_asked request.count (length (lines_of list));
  announcement = sum;
  program = None;
}

-- The draw succeeds, and the text is its record.
abbrev Is : Request → List ℕ → Option (List ℕ) → List ℕ → Type 0
Is request text sum list =
    IsDrawable (source_with request sum list) list × (text ≡ record_text (source_with request sum list) list)

pub returns-clause-written : goal.returns-clause-written
returns-clause-written g c =
    let list = c.in_ok-list.list.items in
    let request = c.args.request.now in
    let text = string_bytes c.in_ok-text.text in
    let known = subst (λ sum. Is request text sum list) c.sum_of.ensures
    (subst (λ xs. Is request text c.sum_of.result xs) c.deref-3.ensures.value c.in_ok-text.ensures) in
    let entrants = c.in_ok-entrants.ensures.number ∙ ap (λ xs. length (lines_of xs)) c.deref.ensures.value in
    let count = c.among-count.ensures ∙ ap (number_asked request.count) entrants in
    let announced = subst (λ xs. IsAnnounced (given c.args.announcement) xs (number_asked request.count (length (lines_of list)))) c.deref-2.ensures.value
    (subst (IsAnnounced (given c.args.announcement) c.deref-2.result.now) count (c.in_ok-is_announced.ensures.0 c.if-not-branch.false)) in (
      list,
      c.in_ok-list.ensures.read,
      announced,
      known.0,
      subst (λ bytes. Appends (g.W.Write.contents c.args.out.now) (g.W.Write.contents c.write_text.new.out) bytes)
          (c.as_bytes.ensures.value ∙ known.1) c.in_ok-write_text.ensures.written,
    )
