use Rattle.nanorand_core.proofs.lemmas.shuffles.ChoiceLemmas.{Choosing}
use Rattle.nanorand_core.proofs.shuffles.choices_of.Given as goal

abbrev pub invariant-loop-place : goal.invariant-loop-place
invariant-loop-place l = Choosing l.order l.out l.scratch l.place
