use Rattle.std.proofs.Common.{◌≡◌, ℕ, ◌<◌, ◌≤◌, get_or}
use Rattle.nanorand_core.proofs.shuffles.place_from.Given as goal

abbrev pub invariant-loop-place : goal.invariant-loop-place
invariant-loop-place l = (k : ℕ) → l.from ≤ k → k < l.place → get_or l.items k 0 ≡ l.wanted → ⊥
