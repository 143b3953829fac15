use Rattle.std.proofs.Common.{◌≡◌, rules, refl, Option, Some, None}
use Rattle.std.specs.Option.{ok_or}
use Rattle.std.specs.Result.{IfErr}
use Rattle.draw_core.specs.declared.error.DrawError.{DrawError}
use Rattle.draw_core.specs.declared.error.DrawError.TheVariants.{BadWord}
use Rattle.draw_core.proofs.command.count_of.Goals as goal

-- The only error of `ok_or` is the one passed to it.
its_error : {T : Type 0} (option : Option T) (error : DrawError) → IfErr (ok_or option error) (λ made. made ≡ error)
its_error None error = refl
its_error (Some x) error = tt

pub returns-clause-refusal : goal.returns-clause-refusal
returns-clause-refusal c = rw c.ok_or.ensures.value (its_error c.filter.result (BadWord 4))

pub returns-clause-only : goal.returns-clause-only
returns-clause-only c = search rules
