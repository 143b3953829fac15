use Rattle.std.proofs.Common.{◌≡◌, take}
use Rattle.nanorand_core.specs.shuffles.Shuffles.{arranged}
use Rattle.nanorand_core.proofs.shuffles.apply_choices.Given as goal

abbrev pub invariant-loop-place : goal.invariant-loop-place
invariant-loop-place g l = l.items ≡ arranged (take l.place l.choices) l.fn.items
