-- How C receives a result: as a status, with the number written separately.
use Rattle.std.specs.Prelude.{ℕ, Result, Ok, Err}
use Rattle.nanorand_core.specs.declared.values.range.RangeError.{RangeError}
use Rattle.nanorand_core.specs.declared.values.range.RangeError.TheVariants.{Empty, Exhausted}

abbrev pub status : {T : Type 0} → Result T RangeError → ℕ
status (Ok value) = 0
status (Err Empty) = 1
status (Err Exhausted) = 2

-- The number that was drawn, or the old number if none was drawn.
abbrev pub drawn_or : {T : Type 0} → T → Result T RangeError → T
drawn_or before (Ok drawn) = drawn
drawn_or before (Err refusal) = before
