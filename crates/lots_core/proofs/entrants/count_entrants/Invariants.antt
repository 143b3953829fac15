use Rattle.std.proofs.Common.{◌≡◌, ◌+◌, ◌≤◌, ◌++◌, ℕ, List, length}
use Rattle.lots_core.specs.Lists.{AreFull, lines_of}
use Rattle.lots_core.proofs.entrants.count_entrants.Given as goal

-- The lines so far, followed by those of the rest, are the lines of the list, and none so far is
-- empty. Each of them took at least one byte.
abbrev pub invariant-lines : goal.invariant-lines
invariant-lines l =
    ((seen : List (List ℕ)) × (lines_of l.list ≡ seen ++ lines_of l.left) × AreFull seen × (length seen ≡ l.count))
    × (l.count + length l.left ≤ length l.list)

abbrev pub decreases-lines : goal.decreases-lines
decreases-lines l = length l.left
