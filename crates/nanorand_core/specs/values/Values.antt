-- The values that bytes represent: unsigned numbers, signed numbers and truth values.
use Rattle.std.specs.Prelude.{ℕ, zero, suc, ◌+◌, ◌*◌, List, [], ◌∷◌, Bool, ℤ, nat_lt}
use Rattle.std.specs.Int.{Width, cast_signed}

-- The number that a list of bytes represents, in little-endian order: the byte at index i counts
-- times 256^i.
abbrev pub number_of : List ℕ → ℕ
number_of [] = 0
number_of (byte ∷ bytes) = byte + 256 * number_of bytes

-- The signed number that a list of bytes represents, in two's complement: if the unsigned number is
-- at least half of 2^width, 2^width is subtracted from it.
abbrev pub signed_number_of : Width → List ℕ → ℤ
signed_number_of width bytes = cast_signed width (number_of bytes)

-- The truth value that one byte represents: true if the byte is below 128.
abbrev pub truth_of : List ℕ → Bool
truth_of bytes = nat_lt (number_of bytes) 128

-- n values drawn one after another. `value` is the value drawn from a state, and `after` the state
-- after that draw.
abbrev pub values_from : {G T : Type 0} → (G → T) → (G → G) → ℕ → G → List T
values_from value after zero g = []
values_from value after (suc n) g = value g ∷ values_from value after n (after g)
