use Rattle.std.proofs.Common.{◌++◌, ◌∙◌, ap, codes, decimal, string_bytes}
use Rattle.std.proofs.lemmas.Result.{on_ok_weaker}
use Rattle.hex.specs.Hex.{encode_lower}
use Rattle.sha2.specs.Sha256.{sha256}
use Rattle.lots_record.specs.Record.{line}
use Rattle.lots_record.proofs.RecordLemmas.{appended}
use Rattle.lots_record.proofs.announcement.push_list.Goals as goal

pub returns : goal.returns
returns g c =
    let start = string_bytes c.args.text.now in
    let sum = line (codes "list SHA-256: ") (encode_lower (sha256 c.args.list.now)) in
    let summed = c.in_ok-push_sum.ensures
    ∙ ap (λ digest. start ++ line (codes "list SHA-256: ") (encode_lower digest)) c.digest.ensures in
    on_ok_weaker c.push_number.result
    (λ last. appended start sum (line (codes "entrants: ") (decimal c.args.entrants)) last summed) c.push_number.ensures
