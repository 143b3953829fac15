use Rattle.std.proofs.Common.{length, min}
use Rattle.nanorand_core.specs.shuffles.Shuffles.{from_itself}
use Rattle.nanorand_core.proofs.lemmas.shuffles.ShuffleLemmas.{Shuffling}
use Rattle.nanorand_core.proofs.shuffles.partial_shuffle.Given as goal

abbrev pub invariant-loop-place : goal.invariant-loop-place
invariant-loop-place g l =
    Shuffling g.G.Rng.requests from_itself (min l.fn.count (length l.fn.target)) l.fn.target l.fn.rng l.place l.rng l.target
