use Rattle.std.proofs.Common.{◌≡◌, ◌++◌, drop}
use Rattle.std.specs.Prelude.{string_bytes}
use Rattle.std.specs.List.{flat_map}
use Rattle.draw_core.specs.Text.{item_text}
use Rattle.draw_core.proofs.text.push_items.Given as goal

abbrev pub invariant-loop-item : goal.invariant-loop-item
invariant-loop-item g l =
    string_bytes l.text ++ flat_map item_text (drop l.item-index l.items) ≡ string_bytes l.fn.text ++ flat_map item_text l.items
