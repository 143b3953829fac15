use Rattle.std.proofs.Common.{Bor, List, ℕ, map, take, ap, sym, ◌∙◌}
use Rattle.std.proofs.lemmas.List.{take-map}
use Rattle.lots_core.specs.Arguments.{asked_by}
use Rattle.lots_core.specs.Draws.{drawn}
use Rattle.lots_core.specs.Lists.{lines_of}
use Rattle.lots_core.specs.Text.{text_of}
use Rattle.lots_core.proofs.run.select.Goals as goal

pub returns : goal.returns
returns g c =
    let asked = asked_by c.args.request.now in
    let line = λ (entrant : Bor (List ℕ)). entrant.now in
    let count = c.in_ok-entrants.count in
    let selection = c.in_ok-entrants.ensures in
    let text = c.in_ok-text_of.ensures
    ∙ ap (λ xs. text_of (map line (take count xs))) c.deref.ensures.value
    ∙ ap text_of (sym (take-map line count c.in_ok-entrants.entrants.items) ∙ selection.2.drawn)
    ∙ ap (λ n. text_of (drawn asked.seed n (lines_of c.args.list.now))) selection.2.count in
    (selection.0, selection.1, text)
