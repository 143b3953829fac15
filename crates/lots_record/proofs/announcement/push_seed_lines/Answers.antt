use Rattle.std.proofs.Common.{◌++◌, codes, string_bytes}
use Rattle.std.proofs.lemmas.Result.{on_ok_weaker}
use Rattle.lots_record.specs.Announcement.{plan_of}
use Rattle.lots_record.specs.Quoted.{quoted}
use Rattle.lots_record.specs.Record.{line}
use Rattle.lots_record.proofs.RecordLemmas.{appended}
use Rattle.lots_record.proofs.announcement.push_seed_lines.Goals as goal

pub returns : goal.returns
returns g c =
    let plan = plan_of c.args.plan.now in
    let start = string_bytes c.args.text.now in
    let source = line (codes "seed source: ") (quoted plan.source) in
    let form = line (codes "seed form: ") (quoted plan.form) in
    let example = line (codes "seed example: ") (quoted plan.example) in
    let to_form = appended start source form c.in_ok-push_text-2.ensures c.in_ok-push_text.ensures in
    let to_example = appended start (source ++ form) example c.in_ok-push_text-3.ensures to_form in
    on_ok_weaker c.push_text-4.result
    (λ last. appended start (source ++ form ++ example) (line (codes "time: ") (quoted plan.time)) last to_example)
    c.push_text-4.ensures
