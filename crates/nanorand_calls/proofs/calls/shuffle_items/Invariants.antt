use Rattle.std.proofs.Common.{◌≡◌, ◌-◌, ◌*◌, ◌/◌, drop, length}
use Rattle.nanorand_calls.specs.Items.{items_of}
use Rattle.nanorand_calls.proofs.UnderWayLemmas.{UnderWay}
use Rattle.nanorand_calls.proofs.calls.shuffle_items.Given as goal

abbrev pub invariant-loop-place : goal.invariant-loop-place
invariant-loop-place g l = record {
  under_way : UnderWay g.G.Rng.requests (length l.fn.items / l.size) (items_of l.size l.fn.items) l.fn.rng
      l.place (length l.fn.items / l.size - l.place) l.rng (items_of l.size l.items);
  rest : drop (length l.fn.items / l.size * l.size) l.items ≡ drop (length l.fn.items / l.size * l.size) l.fn.items;
}
