use Rattle.std.proofs.Common.{◌≡◌, ◌++◌, ℕ, List, length}
use Rattle.lots_record.specs.Quoted.{Spells}
use Rattle.lots_record.proofs.claims.spelled.Given as goal

-- The bytes so far are the first ones that the text spells, and the rest spells the others.
abbrev pub invariant-bytes : goal.invariant-bytes
invariant-bytes g l =
    (bytes : List ℕ) → Spells bytes l.text
    → (left : List ℕ) × (bytes ≡ l.bytes.items ++ left) × Spells left l.rest

abbrev pub decreases-bytes : goal.decreases-bytes
decreases-bytes g l = length l.rest
