use Rattle.std.proofs.Common.{arith}
use Rattle.std.proofs.lemmas.Grind.{common_steps}
use Rattle.std.proofs.lemmas.Cmp.{nat_list_eq_equiv}
use Rattle.lots_record.proofs.ClaimLemmas.{writes_number}
use Rattle.lots_record.proofs.claims.claims_of.Goals as goal

pub returns-in_err-count-clause-found : goal.returns-in_err-count-clause-found
returns-in_err-count-clause-found g c = λ source list n sum rest small read is.
    let values = c.values_of-values.ensures source list n sum rest small read.count is in
    let count = c.number_of.ensures.only source.count (writes_number _ source.count read.count values.drawn) in
    grind (arith, common_steps, count)

pub returns-in_err-announcement-clause-found : goal.returns-in_err-announcement-clause-found
returns-in_err-announcement-clause-found g c = λ source list n sum rest small read is.
    let values = c.values_of-values.ensures source list n sum rest small read.count is in
    let announcement = c.announcement_of.ensures.found source.announcement read.announcement values.announcement in
    grind (arith, common_steps, announcement)

pub returns-in_err-program-clause-found : goal.returns-in_err-program-clause-found
returns-in_err-program-clause-found g c = λ source list n sum rest small read is.
    let values = c.values_of-values.ensures source list n sum rest small read.count is in
    let program = c.program_of.ensures.found source.program read.program values.program in
    grind (arith, common_steps, program)

pub returns-in_err-seed-clause-found : goal.returns-in_err-seed-clause-found
returns-in_err-seed-clause-found g c = λ source list n sum rest small read is.
    let values = c.values_of-values.ensures source list n sum rest small read.count is in
    let seed = c.unquoted.ensures.found source.seed read.seed values.seed in
    grind (arith, common_steps, seed)

pub returns-clause-found : goal.returns-clause-found
returns-clause-found g c = λ source list n sum rest small read is.
    let values = c.values_of-values.ensures source list n sum rest small read.count is in
    let count = c.number_of.ensures.only source.count (writes_number _ source.count read.count values.drawn) in
    let announcement = c.announcement_of.ensures.found source.announcement read.announcement values.announcement in
    let program = c.program_of.ensures.found source.program read.program values.program in
    let seed = c.unquoted.ensures.found source.seed read.seed values.seed in
    grind (arith, common_steps, count, announcement, program, seed)

pub returns-clause-sums : goal.returns-clause-sums
returns-clause-sums g c = record {
  announcement = grind (arith, common_steps, c.announcement_of.ensures.sum);
  program = grind (arith, common_steps, c.program_of.ensures.sum);
}

pub returns-then-ne-clause-found : goal.returns-then-ne-clause-found
returns-then-ne-clause-found g c = λ source list n sum rest small read is.
    let values = c.values_of-values.ensures source list n sum rest small read.count is in
    let format = values.format in
    grind (arith, common_steps, format, nat_list_eq_equiv.refl)
