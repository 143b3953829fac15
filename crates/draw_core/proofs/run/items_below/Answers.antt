use Rattle.std.proofs.Common.{ℕ, ◌+◌, [], ◌∷◌, ◌++◌, ap, arith, sym, ◌∙◌}
use Rattle.std.specs.List.{range_with_len}
use Rattle.std.proofs.lemmas.List.{map-id}
use Rattle.std.proofs.lemmas.List.FromFn.{map-range_with_len_more}
use Rattle.draw_core.proofs.run.items_below.Goals as goal

pub items-preserved : goal.items-preserved
items-preserved g c =
    let item = c.items.item in
    let more = sym (map-id (range_with_len 0 (item + 1)))
    ∙ map-range_with_len_more (λ (x : ℕ). x) 0 item item (omega arith)
    ∙ ap (λ xs. xs ++ item ∷ []) (map-id (range_with_len 0 item)) in
    c.in_ok-push.ensures.items ∙ ap (λ xs. xs ++ item ∷ []) c.items.invariant ∙ sym more
