use Rattle.std.proofs.Common.{arith, subst, sym}
use Rattle.std.proofs.lemmas.Grind.{common_steps}
use Rattle.std.specs.Str.{IsUtf8}
use Rattle.lots_record.proofs.Utf8Lemmas.{utf8_bytes}
use Rattle.lots_record.proofs.announcement.read_text.Goals as goal

pub returns-in-Ok-clause-found : goal.returns-in-Ok-clause-found
returns-in-Ok-clause-found g c = λ bytes utf8 is.
    let read = c.in-Ok.ensures.found bytes (utf8_bytes bytes utf8) is in
    let text = subst IsUtf8 (sym read) utf8 in
    grind (arith, common_steps, read, text)

pub returns-in-Err-Draw-clause-found : goal.returns-in-Err-Draw-clause-found
returns-in-Err-Draw-clause-found g c = λ bytes utf8 is.
    let read = c.unquoted.ensures.found bytes (utf8_bytes bytes utf8) is in
    grind (arith, common_steps, read)

pub returns-in-Err-clause-found : goal.returns-in-Err-clause-found
returns-in-Err-clause-found g c = λ bytes utf8 is.
    let read = c.unquoted.ensures.found bytes (utf8_bytes bytes utf8) is in
    grind (arith, common_steps, read)
