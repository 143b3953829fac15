-- The generator `Script`: the words of a list, one for each block. The state is the list and the
-- number of blocks drawn.
use Rattle.std.specs.Prelude.{ℕ, List, slice_index_or}
use Rattle.std.specs.Int.{w64, to_le_bytes}
use Rattle.test_support.specs.Steps.{next_count}

-- Block n: the bytes of word n of the list, in little-endian order; after the list, zeros.
abbrev pub script_block : List ℕ × ℕ → List ℕ
script_block g = to_le_bytes w64 (slice_index_or g.0 g.1 0)

abbrev pub script_step : List ℕ × ℕ → List ℕ × ℕ
script_step g = (g.0, next_count g.1)
