-- Draws of a number below a size: words, which are random integers of N bits, are drawn one after
-- another until one names a number, at most 128 of them.
use Rattle.std.specs.Prelude.{ℕ, ℤ, ◌+◌, ◌/◌, ◌==◌, List, length, map, position, slice_index, slice_get, Option}
use Rattle.std.specs.Prelude.{is_some, option_and_then, ok_or, Result, Err, if◌then◌else◌}
use Rattle.std.specs.Fn.{iterate}
use Rattle.std.specs.List.{range_with_len}
use Rattle.std.specs.Option.{option_map_or}
use Rattle.std.specs.declared.ops.Bound.{Bound}
use Rattle.nanorand_core.specs.generators.Blocks.{Requests}
use Rattle.nanorand_core.specs.values.Values.{number_of}
use Rattle.nanorand_core.specs.values.Runs.{named}
use Rattle.nanorand_core.specs.values.Range.{unsigned_range, signed_range}
use Rattle.nanorand_core.specs.declared.values.range.RangeError.{RangeError}
use Rattle.nanorand_core.specs.declared.values.range.RangeError.TheVariants.{Empty, Exhausted}

-- The index of the deciding word: the first word that names a number below the size.
abbrev pub deciding_place : ℕ → ℕ → List ℕ → Option ℕ
deciding_place bits size words = position (λ word. is_some (named bits size word)) words

-- The number that the deciding word names, if there is one.
abbrev pub decided : ℕ → ℕ → List ℕ → Option ℕ
decided bits size words =
    option_and_then (λ i. named bits size (slice_index words i)) (deciding_place bits size words)

-- The greatest number of words that are drawn for one number.
abbrev pub word_limit : ℕ
word_limit = 128

-- The state after that many words. `after` is the state after one word.
unfoldable pub after_limit : {G : Type 0} → (G → G) → G → G
after_limit after g = iterate after word_limit g

-- Draws from a source of words. `word` is the next word of a state, and `after` the state after it.
module _ {G : Type 0} (word : G → ℕ) (after : G → G) where
  -- The next n words from a state.
  unfoldable pub words_from : ℕ → G → List ℕ
  words_from n g = map (λ i. word (iterate after i g)) (range_with_len 0 n)

  -- The number below the size that the deciding word of the next `limit` words names, if there is
  -- one.
  abbrev pub number_drawn : ℕ → ℕ → ℕ → G → Option ℕ
  number_drawn limit bits size g = decided bits size (words_from limit g)

  -- The state after the deciding word, or after all `limit` words if none of them decides.
  unfoldable pub left_after : ℕ → ℕ → ℕ → G → G
  left_after limit bits size g =
      let place = deciding_place bits size (words_from limit g) in
      iterate after (option_map_or (λ i. i + 1) place limit) g

  -- The result of a draw from a range that consists of these numbers: the number at the drawn
  -- index, counted from 0. The result is the error `Empty` if the range is empty, and `Exhausted`
  -- if 128 words were rejected.
  unfoldable pub value_drawn : {T : Type 0} → ℕ → List T → G → Result T RangeError
  value_drawn bits numbers g =
      if length numbers == 0 then Err Empty
      else
      let drawn = number_drawn word_limit bits (length numbers) g in
      ok_or (option_and_then (slice_get numbers) drawn) Exhausted

  -- The state that this draw leaves. An empty range draws nothing.
  unfoldable pub left_by : {T : Type 0} → ℕ → List T → G → G
  left_by bits numbers g =
      if length numbers == 0 then g else left_after word_limit bits (length numbers) g

-- The next word of `bits` bits: the unsigned number of the bytes of one request (one read) of
-- bits / 8 bytes, in little-endian order. Signed types use it too.
abbrev pub next_word : {G : Type 0} → Requests G → ℕ → G → ℕ
next_word requests bits g = number_of (requests.bytes g (bits / 8))

-- The state after that word.
abbrev pub after_word : {G : Type 0} → Requests G → ℕ → G → G
after_word requests bits g = requests.after g (bits / 8)

-- The outcome of a draw of a number: the number, or none after 128 rejected words, and the state
-- that the draw leaves.
pub record Draw (G : Type 0) : Type 0 where
  pub number : Option ℕ
  pub state : G

module _ {G : Type 0} (requests : Requests G) where
  -- The state after n words of `bits` bits.
  abbrev pub after_words : ℕ → ℕ → G → G
  after_words bits n g = iterate (after_word requests bits) n g

  -- A draw of a number below `size`, from words of `bits` bits.
  abbrev pub drawn_below : ℕ → ℕ → G → Draw G
  drawn_below bits size g =
      let word = next_word requests bits in
      let after = after_word requests bits in
      record {
        number = number_drawn word after word_limit bits size g;
        state = left_after word after word_limit bits size g;
      }

  -- The result of a draw from a range that consists of these numbers, of a type of `bits` bits, and
  -- the state that the draw leaves.
  abbrev pub range_outcome : {T : Type 0} → ℕ → List T → G → Result T RangeError × G
  range_outcome bits numbers g =
      let word = next_word requests bits in
      let after = after_word requests bits in
      (value_drawn word after bits numbers g, left_by word after bits numbers g)

  -- The same for a range of the unsigned type of `bits` bits, given by its bounds.
  abbrev pub unsigned_outcome : ℕ → G → Bound ℕ → Bound ℕ → Result ℕ RangeError × G
  unsigned_outcome bits g low high = range_outcome bits (unsigned_range bits low high) g

  -- The same for a range of the signed type of `bits` bits, given by its bounds.
  abbrev pub signed_outcome : ℕ → G → Bound ℤ → Bound ℤ → Result ℤ RangeError × G
  signed_outcome bits g low high = range_outcome bits (signed_range bits low high) g
