use Rattle.std.proofs.Common.{Bor, ◌≡◌, ◌≤◌, ◌++◌, ℕ, List, length, map, take, drop, min, Ok, ap, sym, subst, ◌∙◌, arith}
use Rattle.std.proofs.lemmas.List.{length-map, take_all, take-append-le, take-map}
use Rattle.nanorand_core.specs.shuffles.Shuffles.{from_itself, partial_answer}
use Rattle.lots_core.specs.Arguments.{Asked, number_asked}
use Rattle.lots_core.specs.Draws.{drawing, drawn, requests, start_of}
use Rattle.lots_core.specs.Selection.{AreDrawn}
use Rattle.lots_core.specs.Text.{HasSelection, places_asked}
use Rattle.lots_core.proofs.lemmas.DrawLemmas.{drawn-map}
use Rattle.lots_core.proofs.selection.draw_lines.Goals as goal

-- If `count` of the entrants can be drawn, `count` of their lines can.
selected : {T : Type 0} (line : T → List ℕ) (asked : Asked) (entrants : List T) (count : ℕ)
    → count ≡ number_asked asked.count (length entrants) → count ≤ length entrants
    → (drawing asked.seed count entrants).answer ≡ Ok tt
    → (count ≡ places_asked asked (map line entrants)) × HasSelection asked (map line entrants)
selected line asked entrants count is enough answer =
    let lines = map line entrants in
    let size = length-map entrants line in
    let same : count ≡ places_asked asked lines = is ∙ ap (number_asked asked.count) (sym size) in (
      same,
      record {
        enough = omega (arith, same, size, enough);
        answer = subst (λ n. (drawing asked.seed n lines).answer ≡ Ok tt) same
            (ap (λ n. partial_answer requests from_itself n (min count n) (start_of asked.seed)) size ∙ answer);
      },
    )

pub returns : goal.returns
returns g c =
    let asked : Asked = record { seed = c.args.seed.now; count = c.args.count } in
    let line = λ (entrant : Bor (List ℕ)). entrant.now in
    let count = c.among-drawn.result in
    let entrants = c.deref_mut.result.now in
    let draw = c.in_ok-draw.ensures in
    let moved = c.draw.new.entrants in
    let long = c.in_ok-entrants.entrants.len in
    let rest = drop (length moved) c.in_ok-entrants.entrants.items in
    let whole : long ≡ length moved = omega (arith, c.draw.auto.entrants, c.deref_mut.ensures.len) in
    let back : take long (moved ++ rest) ≡ moved =
    take-append-le long moved rest (omega (arith, whole)) ∙ take_all long moved (omega (arith, whole)) in
    let is = c.among-drawn.ensures ∙ ap (number_asked asked.count) (c.len.ensures ∙ sym c.deref_mut.ensures.len) in
    let known = selected line asked entrants count is draw.enough draw.answer in
    let first : take count (map line (take long (moved ++ rest))) ≡ drawn asked.seed count (map line entrants) =
    take-map line count (take long (moved ++ rest)) ∙ ap (λ xs. map line (take count xs)) back
    ∙ ap (map line) draw.drawn ∙ sym (drawn-map line asked.seed count entrants) in
    let size = length-map (take long (moved ++ rest)) line ∙ ap length back
    ∙ sym whole ∙ sym c.deref_mut.ensures.len ∙ sym (length-map entrants line) in
    let same = ap (map line) c.deref_mut.ensures.value ∙ c.in_ok-entrants.ensures.lines in
    let lines = subst (λ lines. HasSelection asked lines × AreDrawn asked lines (map line (take long (moved ++ rest))) count) same
    (known.1, record { count = known.0; long = size; drawn = first }) in
    (c.in_ok-entrants.ensures.full, lines.0, lines.1)
