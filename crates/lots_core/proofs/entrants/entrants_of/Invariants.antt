use Rattle.std.proofs.Common.{◌≡◌, ◌++◌, length, map}
use Rattle.lots_core.specs.Lists.{AreFull, lines_of}
use Rattle.lots_core.proofs.entrants.entrants_of.Given as goal

-- The lines so far, followed by those of the rest, are the lines of the list, and none so far is
-- empty.
abbrev pub invariant-lines : goal.invariant-lines
invariant-lines g l =
    (lines_of l.list ≡ map (λ entrant. entrant.now) l.entrants.items ++ lines_of l.rest)
    × AreFull (map (λ entrant. entrant.now) l.entrants.items)

abbrev pub decreases-lines : goal.decreases-lines
decreases-lines g l = length l.rest
