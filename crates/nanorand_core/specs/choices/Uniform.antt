-- Unbiased choices: an index below a count, and an event with a given ratio. A word is a random
-- integer of N bits.
use Rattle.std.specs.Prelude.{◌≡◌, ℕ, ◌*◌, ◌^◌, ◌<◌, ◌≤◌, ◌==◌, Result, nat_lt}
use Rattle.std.specs.declared.ops.Bound.TheVariants.{Included, Excluded}
use Rattle.nanorand_core.specs.generators.Blocks.{Requests}
use Rattle.nanorand_core.specs.values.Runs.{IsWordWidth, named, quota, words_that}
use Rattle.nanorand_core.specs.values.Draws.{unsigned_outcome}
use Rattle.nanorand_core.specs.values.Fairness.{passes}
use Rattle.nanorand_core.specs.declared.values.range.RangeError.{RangeError}

-- The result of drawing a number below `count` from words of 64 bits, and the state after the draw.
-- If `count` is 0, the result is the error `Empty`.
abbrev pub index_drawn : {G : Type 0} → Requests G → ℕ → G → Result ℕ RangeError × G
index_drawn requests count g = unsigned_outcome requests 64 g (Included 0) (Excluded count)

-- Each index below the count is named by the same number of words, `quota`.
abbrev pub IndicesAreFair : Type 0
IndicesAreFair =
    (bits count i : ℕ) → IsWordWidth bits → count ≤ 2 ^ bits → i < count
    → words_that bits (λ word. passes (λ j. j == i) (named bits count word)) ≡ quota bits count

-- An event with the ratio `numerator` / `denominator` occurs if the number drawn below the
-- denominator is below the numerator. It is named by exactly `numerator` times as many words as one
-- number.
abbrev pub RatiosAreFair : Type 0
RatiosAreFair =
    (bits numerator denominator : ℕ) → IsWordWidth bits → 1 ≤ denominator → denominator ≤ 2 ^ bits
    → numerator ≤ denominator
    → words_that bits (λ word. passes (λ k. nat_lt k numerator) (named bits denominator word))
    ≡ numerator * quota bits denominator
