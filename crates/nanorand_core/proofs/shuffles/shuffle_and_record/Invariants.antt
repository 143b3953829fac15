use Rattle.nanorand_core.proofs.lemmas.shuffles.RecordLemmas.{Recording}
use Rattle.nanorand_core.proofs.shuffles.shuffle_and_record.Given as goal

abbrev pub invariant-loop-place : goal.invariant-loop-place
invariant-loop-place g l =
    Recording g.G.Rng.requests l.fn.target l.fn.rng l.place l.rng l.target l.choices
