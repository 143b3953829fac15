use Rattle.std.proofs.Common.{◌∙◌, ap, arith}
use Rattle.lots_record.specs.Announcement.{plan_of, text_of}
use Rattle.lots_record.proofs.announcement.announcement.Goals as goal

pub returns : goal.returns
returns g c =
    let text = c.in_ok-text_for.ensures ∙ ap (text_of (plan_of c.args.plan.now) c.args.list.now) c.in_ok-entrants.ensures.number in
    (c.in_ok-entrants.ensures.full, grind (arith, c.in_ok-entrants.ensures.number), text)
