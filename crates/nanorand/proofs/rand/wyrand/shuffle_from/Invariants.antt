use Rattle.std.proofs.Common.{length}
use Rattle.nanorand_core.specs.shuffles.Shuffles.{from_itself}
use Rattle.nanorand_core.proofs.lemmas.shuffles.ShuffleLemmas.{Shuffling}
use Rattle.nanorand.specs.generators.WyRand.{wyrand_requests}
use Rattle.nanorand.proofs.rand.wyrand.shuffle_from.Given as goal

abbrev pub invariant-loop-place : goal.invariant-loop-place
invariant-loop-place g l =
    Shuffling wyrand_requests from_itself (length l.fn.target) l.fn.target l.fn.seed l.place l.now l.target
