-- Draws from `first..=last`.
use Rattle.std.specs.Prelude.{ℕ, ℤ, Result}
use Rattle.std.specs.declared.ops.Bound.TheVariants.{Included}
use Rattle.nanorand_core.specs.generators.Blocks.{Requests}
use Rattle.nanorand_core.specs.values.Draws.{signed_outcome, unsigned_outcome}
use Rattle.nanorand_core.specs.declared.values.range.RangeError.{RangeError}

-- The result of drawing an unsigned number by words of `bits` bits, and the state after it.
abbrev pub between : {G : Type 0} → Requests G → ℕ → ℕ → ℕ → G → Result ℕ RangeError × G
between requests bits first last g =
    unsigned_outcome requests bits g (Included first) (Included last)

-- The same for a signed number.
abbrev pub between_signed : {G : Type 0} → Requests G → ℕ → ℤ → ℤ → G → Result ℤ RangeError × G
between_signed requests bits first last g =
    signed_outcome requests bits g (Included first) (Included last)
