use Rattle.std.proofs.Common.{◌≡◌}
use Rattle.std.specs.List.{range_with_len}
use Rattle.draw_core.proofs.run.items_below.Given as goal

abbrev pub invariant-items : goal.invariant-items
invariant-items g l = l.items.items ≡ range_with_len 0 l.item
