-- A user's value type: a playing card, with a number below 52.
use Rattle.std.specs.Prelude.{ℕ, ◌<◌, Result, Ok, Err}
use Rattle.std.specs.declared.ops.Bound.{Bound}
use Rattle.std.specs.declared.ops.Bound.TheVariants.{Included, Excluded, Unbounded}
use Rattle.nanorand_core.specs.generators.Blocks.{Requests}
use Rattle.nanorand_core.specs.values.Draws.{unsigned_outcome}
use Rattle.nanorand_core.specs.declared.values.range.RangeError.{RangeError}

-- The number drawn, or 0 if the draw failed.
abbrev pub number_or_zero : Result ℕ RangeError → ℕ
number_or_zero (Ok number) = number
number_or_zero (Err refusal) = 0

module _ {G : Type 0} (requests : Requests G) where
  -- A draw from the range 0..52 by words of 8 bits.
  abbrev pub card_drawn : G → Result ℕ RangeError × G
  card_drawn g = unsigned_outcome requests 8 g (Included 0) (Excluded 52)

  -- The card drawn, and the state after it.
  abbrev pub card_value : G → ℕ
  card_value g = number_or_zero (card_drawn g).0

  abbrev pub card_after : G → G
  card_after g = (card_drawn g).1

-- The high bound as a number. If it is unbounded, the range ends after the last card.
abbrev pub card_end : Bound ℕ → Bound ℕ
card_end (Included number) = Included number
card_end (Excluded number) = Excluded number
card_end Unbounded = Excluded 52

-- The bound is not open, and the numbers within it are below 52.
abbrev pub EndsInPack : Bound ℕ → Type 0
EndsInPack (Included number) = number < 52
EndsInPack (Excluded number) = number < 53
EndsInPack Unbounded = ⊥
