-- The number of bytes that a list of calls reads: the sum of the sizes of the requests that its
-- values, ranges and shuffles make.
use Rattle.std.specs.Prelude.{ℕ, zero, suc, ◌+◌, ◌*◌, ◌/◌, ◌==◌, List, [], ◌∷◌, length, min, if◌then◌else◌}
use Rattle.std.specs.Option.{option_map_or}
use Rattle.std.specs.declared.ops.Bound.TheVariants.{Included, Excluded}
use Rattle.nanorand_core.specs.generators.Blocks.{Requests}
use Rattle.nanorand_core.specs.values.Range.{unsigned_range, signed_range}
use Rattle.nanorand_core.specs.values.Draws.{word_limit, deciding_place, words_from, next_word, after_word}
use Rattle.nanorand_replay.specs.replay.Replay.{TypedBounds, bounds_of, outcome, size_of}
use Rattle.nanorand_replay.specs.replay.Replay.TypedBounds.{signed, unsigned}
use Rattle.nanorand_core.specs.shuffles.Shuffles.{from_itself, partner_drawn, shuffle_choices}
use Rattle.nanorand_replay.specs.declared.replay.Call.{Call}
use Rattle.nanorand_replay.specs.declared.replay.Call.TheVariants.{Gen, Range, Shuffle}
use Rattle.nanorand_replay.specs.declared.replay.Span.{Span}

-- The number of words that are drawn for a range with these numbers: those up to the deciding word,
-- or all 128, or none if the range is empty.
unfoldable pub words_drawn : {G T : Type 0} → (G → ℕ) → (G → G) → ℕ → List T → G → ℕ
words_drawn word after bits numbers g =
    if length numbers == 0 then 0
    else
    let place = deciding_place bits (length numbers) (words_from word after word_limit g) in
    option_map_or (λ i. i + 1) place word_limit

module _ {G : Type 0} (requests : Requests G) where
  -- The number of bytes that a draw from a range with these numbers reads, for a type of `bits`
  -- bits.
  abbrev pub asked_by_range : {T : Type 0} → ℕ → List T → G → ℕ
  asked_by_range bits numbers g =
      words_drawn (next_word requests bits) (after_word requests bits) bits numbers g * (bits / 8)

  abbrev pub asked_by_bounds : G → TypedBounds → ℕ
  asked_by_bounds g (unsigned bits low high) = asked_by_range bits (unsigned_range bits low high) g
  asked_by_bounds g (signed bits low high) = asked_by_range bits (signed_range bits low high) g

  abbrev pub asked_by_span : G → Span → ℕ
  asked_by_span g span = asked_by_bounds g (bounds_of span)

  -- The number of bytes that the draws of the partners of `count` indices from i on read, in a
  -- shuffle of n items.
  unfoldable pub asked_by_places : (ℕ → ℕ) → ℕ → ℕ → ℕ → G → ℕ
  asked_by_places first n i zero g = 0
  asked_by_places first n i (suc count) g =
      asked_by_range 64 (unsigned_range 64 (Included (first i)) (Excluded n)) g
      + asked_by_places first n (i + 1) count (partner_drawn requests first n i g).1

  -- The number of bytes that a shuffle of n items reads: those of the partner of each index, up to
  -- the first draw that returns an error, including that draw.
  abbrev pub asked_by_shuffle : (ℕ → ℕ) → ℕ → G → ℕ
  asked_by_shuffle first n g =
      asked_by_places first n 0 (min n (length (shuffle_choices requests first n g) + 1)) g

  -- The number of bytes that a call reads.
  abbrev pub asked_by_call : G → List ℕ → Call → ℕ
  asked_by_call g items (Gen kind) = size_of kind
  asked_by_call g items (Range span) = asked_by_span g span
  asked_by_call g items Shuffle = asked_by_shuffle from_itself (length items) g

  -- The number of bytes that a list of calls reads.
  abbrev pub asked : G → List ℕ → List Call → ℕ
  asked g items [] = 0
  asked g items (call ∷ calls) =
      let first = outcome requests g items call in
      asked_by_call g items call + asked first.state first.items calls
