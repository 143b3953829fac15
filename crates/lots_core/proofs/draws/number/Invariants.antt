use Rattle.std.proofs.Common.{◌≡◌, ℕ, ◌<◌, slice_index}
use Rattle.lots_core.proofs.draws.number.Given as goal

-- The places so far hold their own indices.
abbrev pub invariant-places : goal.invariant-places
invariant-places l = (k : ℕ) → k < l.index → slice_index l.places k ≡ k
