use Rattle.std.proofs.Common.{◌≡◌, ◌+◌, ◌≤◌, ◌∙◌, List, ℕ, length, subst, string_bytes}
use Rattle.std.specs.Io.KnownBytes.{Appends}
use Rattle.std.proofs.lemmas.Result.{on_ok_weaker}
use Rattle.lots_core.specs.Lists.{AreFull, lines_of}
use Rattle.lots_record.specs.Announcement.{Plan, plan_of, text_of}
use Rattle.lots_record.proofs.program.write_announcement.Goals as goal

-- The text is the announcement of this plan for the list.
abbrev Is : Plan → List ℕ → List ℕ → Type 0
Is plan text list =
    AreFull (lines_of list) × (plan.winners + plan.reserves ≤ length (lines_of list))
    × (text ≡ text_of plan list (length (lines_of list)))

pub returns-clause-written : goal.returns-clause-written
returns-clause-written g c =
    let list = c.in_ok-list.list.items in
    let known = subst (Is (plan_of c.args.plan.now) (string_bytes c.in_ok-text.text)) c.deref.ensures.value c.in_ok-text.ensures in
    on_ok_weaker c.write_text.result
    (λ appended. (
      list,
      c.in_ok-list.ensures.read,
      known.0,
      known.1,
      subst (λ bytes. Appends (g.W.Write.contents c.args.out.now) (g.W.Write.contents c.write_text.new.out) bytes)
          (c.as_bytes.ensures.value ∙ known.2) appended,
    )) c.write_text.ensures.written
