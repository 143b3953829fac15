use Rattle.std.proofs.Common.{sym, subst}
use Rattle.lots_record.specs.Quoted.{Spells, shown}
use Rattle.lots_record.proofs.ClaimLemmas.{inside}
use Rattle.lots_record.proofs.SpellingLemmas.{spells_shown}
use Rattle.lots_record.proofs.claims.unquoted.Goals as goal

pub returns-clause-found : goal.returns-clause-found
returns-clause-found g c = λ bytes all is.
    c.spelled.ensures.found bytes (subst (Spells bytes) (sym (inside c.args.text.now (shown bytes) is)) (spells_shown bytes all))
