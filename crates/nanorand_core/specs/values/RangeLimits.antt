-- The limits of a draw from a range: the drawn number lies within the bounds, and at most 128 words
-- are drawn.
use Rattle.std.specs.Prelude.{◌≡◌, ℕ, ℤ, ◌^◌, ◌<◌, ◌≤◌, Bool, true, Result, Err, IfOk, IfErr, IsOk, nat_le, nat_lt, int_le, int_lt}
use Rattle.std.specs.Fn.{iterate}
use Rattle.std.specs.declared.ops.Bound.{Bound}
use Rattle.nanorand_core.specs.generators.Blocks.{Requests}
use Rattle.nanorand_core.specs.values.Range.{is_above, is_below, range_size, signed_rank, unsigned_rank, Admits, HasUnsigned, HasSigned}
use Rattle.nanorand_core.specs.values.Runs.{rejected}
use Rattle.nanorand_core.specs.values.Draws.{word_limit, after_limit, after_word}
use Rattle.nanorand_core.specs.declared.values.range.RangeError.{RangeError}
use Rattle.nanorand_core.specs.declared.values.range.RangeError.TheVariants.{Empty, Exhausted}

-- An outcome (a result and a state) of a draw from a range of a type of `bits` bits keeps the
-- limits. `le` and `lt` are the type's order, `number k` is its number of rank k, `after` is the
-- state after a word, and g is the state before the draw.
pub record KeepsLimits {G T : Type 0} (le lt : T → T → Bool) (bits : ℕ) (number : ℕ → T)
    (after : G → G) (low high : Bound T) (g : G) (outcome : Result T RangeError × G) : Type 0 where
  -- On success the number lies within both bounds.
  pub within : IfOk outcome.0 (Admits le lt low high)
  -- The new state is the one after at most 128 words.
  pub words : (n : ℕ) × (n ≤ word_limit) × (outcome.1 ≡ iterate after n g)
  -- For a range that contains a number, the only error is `Exhausted`.
  pub some : (k : ℕ) → k < 2 ^ bits
      → is_above le lt low (number k) ≡ true → is_below le lt high (number k) ≡ true
      → IfErr outcome.0 (λ refusal. refusal ≡ Exhausted)
  -- After the error `Empty` the state is unchanged.
  pub empty : outcome.0 ≡ Err Empty → outcome.1 ≡ g
  -- After the error `Exhausted` the state is the one after exactly 128 words.
  pub exhausted : outcome.0 ≡ Err Exhausted → outcome.1 ≡ after_limit after g

-- An outcome of a draw within two bounds of an integer type keeps the limits. This is `KeepsLimits`
-- in a form that the proof of a caller can use by search. `HasNumber` compares the two bounds, and
-- names no rank. `size` is the number of numbers that two bounds admit, in a type of `bits` bits.
pub record KeepsBounds {G T : Type 0} (le lt : T → T → Bool) (HasNumber : Bound T → Bound T → Type 0)
    (bits : ℕ) (size : Bound T → Bound T → ℕ) (after : G → G) (low high : Bound T) (g : G)
    (outcome : Result T RangeError × G) : Type 0 where
  -- On success the number lies within both bounds.
  pub within : IfOk outcome.0 (Admits le lt low high)
  -- For bounds that admit a number, the only error is `Exhausted`.
  pub refusal : HasNumber low high → IfErr outcome.0 (λ refusal. refusal ≡ Exhausted)
  -- If the count of the admitted numbers divides 2^bits, no word is rejected, so the result is
  -- `Ok`.
  pub unrefused : HasNumber low high → rejected bits (size low high) ≡ 0 → IsOk outcome.0
  -- The new state is the one after at most 128 words.
  pub words : (n : ℕ) × (n ≤ word_limit) × (outcome.1 ≡ iterate after n g)
  -- After the error `Empty` the state is unchanged.
  pub empty : outcome.0 ≡ Err Empty → outcome.1 ≡ g
  -- After the error `Exhausted` the state is the one after exactly 128 words.
  pub exhausted : outcome.0 ≡ Err Exhausted → outcome.1 ≡ after_limit after g

module _ {G : Type 0} (requests : Requests G) (bits : ℕ) where
  -- The same for two bounds of the unsigned type of `bits` bits.
  abbrev pub UnsignedLimits : G → Bound ℕ → Bound ℕ → Result ℕ RangeError × G → Type 0
  UnsignedLimits g low high outcome =
      KeepsBounds nat_le nat_lt (HasUnsigned bits) bits (range_size unsigned_rank bits)
      (after_word requests bits) low high g outcome

  -- The same for two bounds of the signed type of `bits` bits.
  abbrev pub SignedLimits : G → Bound ℤ → Bound ℤ → Result ℤ RangeError × G → Type 0
  SignedLimits g low high outcome =
      KeepsBounds int_le int_lt (HasSigned bits) bits (range_size (signed_rank bits) bits)
      (after_word requests bits) low high g outcome
