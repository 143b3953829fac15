use Rattle.nanorand_calls.proofs.ItemLemmas.{Swapped}
use Rattle.nanorand_calls.proofs.items.swap_items.Given as goal

abbrev pub invariant-loop-place : goal.invariant-loop-place
invariant-loop-place l = Swapped l.first l.second l.place l.fn.bytes l.bytes
