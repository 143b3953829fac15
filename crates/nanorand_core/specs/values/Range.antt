-- A range: the numbers of a type that lie within both bounds, in the order of their ranks. For the
-- integer types this is increasing order.
use Rattle.std.specs.Prelude.{◌≡◌, ℕ, ◌+◌, ◌-◌, ◌^◌, ◌<◌, ◌&&◌, Bool, true, List, map, filter, ℤ, pos, ◌+ℤ◌, ◌-ℤ◌, ◌<ℤ◌, nat_le, nat_lt, int_le, int_lt}
use Rattle.std.specs.Int.{int_gap}
use Rattle.std.specs.List.{range_with_len}
use Rattle.std.specs.declared.ops.Bound.{Bound}
use Rattle.std.specs.declared.ops.Bound.TheVariants.{Included, Excluded, Unbounded}

module _ {T : Type 0} (le lt : T → T → Bool) where
  -- Whether x lies within the low bound.
  abbrev pub is_above : Bound T → T → Bool
  is_above (Included b) x = le b x
  is_above (Excluded b) x = lt b x
  is_above Unbounded x = true

  -- Whether x lies within the high bound.
  abbrev pub is_below : Bound T → T → Bool
  is_below (Included b) x = le x b
  is_below (Excluded b) x = lt x b
  is_below Unbounded x = true

  -- Both bounds admit x.
  abbrev pub Admits : Bound T → Bound T → T → Type 0
  Admits low high x = (is_above low x ≡ true) × (is_below high x ≡ true)

  -- The range of a type of `bits` bits, in the order of the ranks. `number k` is the type's number
  -- of rank k, counted from 0.
  unfoldable pub range_within : ℕ → (ℕ → T) → Bound T → Bound T → List T
  range_within bits number low high =
      filter (λ x. is_above low x && is_below high x) (map number (range_with_len 0 (2 ^ bits)))

-- The number of rank k of an unsigned type: k itself.
abbrev pub unsigned_number : ℕ → ℕ
unsigned_number k = k

-- The number of rank k of a signed type of `bits` bits: rank 0 is -2^(bits - 1).
abbrev pub signed_number : ℕ → ℕ → ℤ
signed_number bits k = pos k -ℤ pos (2 ^ (bits - 1))

-- The rank of a number of an unsigned type: the number itself.
abbrev pub unsigned_rank : ℕ → ℕ
unsigned_rank number = number

-- The rank of a number of a signed type of `bits` bits: its distance from the least number.
abbrev pub signed_rank : ℕ → ℤ → ℕ
signed_rank bits number = int_gap (pos 0 -ℤ pos (2 ^ (bits - 1))) number

module _ {T : Type 0} (rank : T → ℕ) where
  -- The rank of the least number that a low bound admits.
  abbrev pub first_rank : Bound T → ℕ
  first_rank (Included b) = rank b
  first_rank (Excluded b) = rank b + 1
  first_rank Unbounded = 0

  -- The rank of the greatest number that a high bound admits, plus 1, in a type of `bits` bits.
  abbrev pub end_rank : ℕ → Bound T → ℕ
  end_rank bits (Included b) = rank b + 1
  end_rank bits (Excluded b) = rank b
  end_rank bits Unbounded = 2 ^ bits

  -- The number of numbers that two bounds admit.
  abbrev pub range_size : ℕ → Bound T → Bound T → ℕ
  range_size bits low high = end_rank bits high - first_rank low

-- The range of the unsigned type of `bits` bits.
abbrev pub unsigned_range : ℕ → Bound ℕ → Bound ℕ → List ℕ
unsigned_range bits low high = range_within nat_le nat_lt bits unsigned_number low high

-- The range of the signed type of `bits` bits.
abbrev pub signed_range : ℕ → Bound ℤ → Bound ℤ → List ℤ
signed_range bits low high = range_within int_le int_lt bits (signed_number bits) low high

-- The least number that a low bound admits, of an unsigned type.
abbrev pub unsigned_first : Bound ℕ → ℕ
unsigned_first (Included b) = b
unsigned_first (Excluded b) = b + 1
unsigned_first Unbounded = 0

-- The greatest number that a high bound admits, plus 1, in the unsigned type of `bits` bits.
abbrev pub unsigned_end : ℕ → Bound ℕ → ℕ
unsigned_end bits (Included b) = b + 1
unsigned_end bits (Excluded b) = b
unsigned_end bits Unbounded = 2 ^ bits

-- Two bounds of the unsigned type of `bits` bits admit at least one number.
abbrev pub HasUnsigned : ℕ → Bound ℕ → Bound ℕ → Type 0
HasUnsigned bits low high = unsigned_first low < unsigned_end bits high

-- The same three for the signed type of `bits` bits.
abbrev pub signed_first : ℕ → Bound ℤ → ℤ
signed_first bits (Included b) = b
signed_first bits (Excluded b) = b +ℤ pos 1
signed_first bits Unbounded = pos 0 -ℤ pos (2 ^ (bits - 1))

abbrev pub signed_end : ℕ → Bound ℤ → ℤ
signed_end bits (Included b) = b +ℤ pos 1
signed_end bits (Excluded b) = b
signed_end bits Unbounded = pos (2 ^ (bits - 1))

abbrev pub HasSigned : ℕ → Bound ℤ → Bound ℤ → Type 0
HasSigned bits low high = signed_first bits low <ℤ signed_end bits high

-- The number of a bound has the property P, if the bound has a number.
abbrev pub IfBound : {T : Type 0} → Bound T → (T → Type 0) → Type 0
IfBound (Included b) P = P b
IfBound (Excluded b) P = P b
IfBound Unbounded P = Unit

-- x is a number of a type of `bits` bits, whose number of rank k is `number k`.
abbrev pub IsNumber : {T : Type 0} → ℕ → (ℕ → T) → T → Type 0
IsNumber bits number x = (k : ℕ) × (k < 2 ^ bits) × (number k ≡ x)
