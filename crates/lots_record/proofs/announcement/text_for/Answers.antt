use Rattle.std.proofs.Common.{◌++◌, ◌∙◌, ap, codes, decimal, string_bytes}
use Rattle.lots_record.specs.Announcement.{list_lines, plan_of, seed_lines, text_of}
use Rattle.lots_record.specs.Quoted.{quoted}
use Rattle.lots_record.specs.Record.{line}
use Rattle.lots_record.proofs.RecordLemmas.{appended}
use Rattle.lots_record.proofs.announcement.text_for.Goals as goal

pub returns : goal.returns
returns g c =
    let plan = plan_of c.args.plan.now in
    let start = string_bytes c.new-text.result in
    let title = codes "nanorand announcement 1\n" in
    let occasion = line (codes "occasion: ") (quoted plan.occasion) in
    let listed = list_lines c.args.list.now c.args.entrants in
    let winners = line (codes "winners: ") (decimal plan.winners) in
    let reserves = line (codes "reserves: ") (decimal plan.reserves) in
    let seed = seed_lines plan in
    let to_occasion = appended start title occasion c.in_ok-push_text.ensures c.in_ok-push_str.ensures.bytes in
    let to_list = appended start (title ++ occasion) listed c.in_ok-push_list.ensures to_occasion in
    let to_winners = appended start (title ++ occasion ++ listed) winners c.in_ok-push_number.ensures to_list in
    let to_reserves = appended start (title ++ occasion ++ listed ++ winners) reserves c.in_ok-push_number-2.ensures to_winners in
    let to_seed = appended start (title ++ occasion ++ listed ++ winners ++ reserves) seed c.in_ok-push_seed_lines.ensures to_reserves in
    let all = appended start (title ++ occasion ++ listed ++ winners ++ reserves ++ seed) (codes "end of the announcement\n")
    c.in_ok-push_str-2.ensures.bytes to_seed in
    all ∙ ap (λ before. before ++ text_of plan c.args.list.now c.args.entrants) c.new-text.ensures.bytes
