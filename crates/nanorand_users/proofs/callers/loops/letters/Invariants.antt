use Rattle.std.proofs.Common.{ℕ, ◌<◌, get_or}
use Rattle.std.specs.List.{Contains}
use Rattle.nanorand_users.proofs.callers.loops.letters.Given as goal

-- The letters so far are letters of the alphabet.
abbrev pub invariant-loop-place : goal.invariant-loop-place
invariant-loop-place l = (k : ℕ) → k < l.place → Contains l.fn.alphabet (get_or l.out k 0)
