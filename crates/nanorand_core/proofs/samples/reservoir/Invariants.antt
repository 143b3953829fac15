use Rattle.std.proofs.Common.{◌≡◌, ◌+◌, ◌≤◌, ℕ, List, length}
use Rattle.nanorand_core.proofs.lemmas.ReservoirLemmas.{Holds}
use Rattle.nanorand_core.proofs.samples.reservoir.Given as goal

-- what the slots hold after the items so far
abbrev pub invariant-loop-item : goal.invariant-loop-item
invariant-loop-item g l =
    (goal.iterator-loop-item g).can_next l.item-iterator
    × (goal.iterator-loop-item g).is_finite l.item-iterator
    × (length l.yielded + (goal.iterator-loop-item g).remaining l.item-iterator ≤ (goal.iterator-loop-item g).remaining l.fn.items)
    × (l.taken ≡ length l.yielded)
    × ((numbers : List ℕ) × Holds g.G.Rng.requests l.fn.rng l.fn.chosen l.yielded l.chosen (length l.yielded) l.rng numbers)
