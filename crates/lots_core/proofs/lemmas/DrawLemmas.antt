-- A draw moves entrants without regard to their values: it commutes with every map over them.
use Rattle.std.proofs.Common.{◌≡◌, ℕ, List, [], ◌∷◌, length, map, take, fold, swap, ap, refl, sym, ◌∙◌}
use Rattle.std.proofs.Common.{slice_index_or, slice_set, min}
use Rattle.std.specs.List.{enumerate_from}
use Rattle.std.proofs.lemmas.List.{length-map, take-map, map-set}
use Rattle.std.proofs.Math.ListN.{get_or-map}
use Rattle.nanorand_core.specs.shuffles.Shuffles.{arranged, partial_choices, from_itself}
use Rattle.lots_core.specs.Draws.{drawn, requests, start_of}

-- A swap of mapped items is the map of the swapped items.
swap-map : {T U : Type 0} (f : T → U) (items : List T) (i j : ℕ) → swap (map f items) i j ≡ map f (swap items i j)
swap-map f [] i j = refl
swap-map f (x ∷ xs) i j =
    let items = x ∷ xs in
    let first = slice_index_or items i x in
    let second = slice_index_or items j x in
    ap (λ y. slice_set (slice_set (map f items) i y) j (slice_index_or (map f items) i (f x))) (get_or-map f items j x)
    ∙ ap (λ y. slice_set (slice_set (map f items) i (f second)) j y) (get_or-map f items i x)
    ∙ ap (λ ys. slice_set ys j (f first)) (sym (map-set f items i second))
    ∙ sym (map-set f (slice_set items i second) j first)

-- The same holds for several swaps in a row.
swaps-map : {T U : Type 0} (f : T → U) (moves : List (ℕ × ℕ)) (items : List T)
    → fold (λ xs move. swap xs move.0 move.1) (map f items) moves
    ≡ map f (fold (λ xs move. swap xs move.0 move.1) items moves)
swaps-map f [] items = refl
swaps-map f (move ∷ moves) items =
    ap (λ xs. fold (λ xs move. swap xs move.0 move.1) xs moves) (swap-map f items move.0 move.1)
    ∙ swaps-map f moves (swap items move.0 move.1)

pub arranged-map : {T U : Type 0} (f : T → U) (choices : List ℕ) (items : List T)
    → arranged choices (map f items) ≡ map f (arranged choices items)
arranged-map f choices items = swaps-map f (enumerate_from 0 choices) items

-- The entrants drawn from a mapped list are the entrants drawn from the list, mapped.
pub drawn-map : {T U : Type 0} (f : T → U) (seed : List ℕ) (count : ℕ) (entrants : List T)
    → drawn seed count (map f entrants) ≡ map f (drawn seed count entrants)
drawn-map f seed count entrants =
    let choices : ℕ → List ℕ = λ n. partial_choices requests from_itself n (min count n) (start_of seed) in
    ap (λ n. take count (arranged (choices n) (map f entrants))) (length-map entrants f)
    ∙ ap (take count) (arranged-map f (choices (length entrants)) entrants)
    ∙ take-map f count (arranged (choices (length entrants)) entrants)
