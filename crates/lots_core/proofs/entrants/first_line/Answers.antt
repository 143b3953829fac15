use Rattle.std.proofs.Common.{◌+◌, ◌-◌, ◌∷◌, length, take, drop, ap, arith, ◌∙◌, sym, length-drop}
use Rattle.std.proofs.lemmas.List.{take_all}
use Rattle.lots_core.specs.Lists.{lines_of}
use Rattle.lots_core.proofs.lemmas.LineLemmas.{line_before, last_line_of}
use Rattle.lots_core.proofs.entrants.first_line.Goals as goal

pub returns-in-Some-clause-lines : goal.returns-in-Some-clause-lines
returns-in-Some-clause-lines c =
    let text = c.args.text.now in
    let end = c.in-Some.end in
    let rest = take_all (length text - (end + 1)) (drop (end + 1) text) (omega (arith, length-drop (end + 1) text)) in
    line_before text end c.in-Some.ensures.0 c.in-Some.ensures.1 c.in-Some.ensures.2
    ∙ ap (λ xs. take end text ∷ lines_of xs) (sym rest)

pub returns-in-None-clause-lines : goal.returns-in-None-clause-lines
returns-in-None-clause-lines c = last_line_of c.args.text.now c.requires c.in-None.ensures
