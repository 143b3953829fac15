use Rattle.std.proofs.Common.{length}
use Rattle.nanorand_core.specs.shuffles.Shuffles.{from_all}
use Rattle.nanorand_core.proofs.lemmas.shuffles.ShuffleLemmas.{Shuffling}
use Rattle.nanorand_core.proofs.shuffles.shuffle_full.Given as goal

abbrev pub invariant-loop-place : goal.invariant-loop-place
invariant-loop-place g l =
    Shuffling g.G.Rng.requests from_all (length l.fn.target) l.fn.target l.fn.rng l.place l.rng l.target
