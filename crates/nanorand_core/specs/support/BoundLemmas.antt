-- Two bounds that admit a number admit a number that has a rank. Not needed to understand the
-- contracts: this file is in specs/ only because laws of impls cite its lemmas.
use Rattle.std.specs.Prelude.{◌≡◌, ℕ, ℤ, ◌+◌, ◌-◌, ◌*◌, ◌^◌, ◌<◌, ◌≤◌, ◌<ℤ◌, ◌≤ℤ◌, ◌-ℤ◌, true, nat_le, nat_lt, int_le, int_lt, pos, negsuc, refl}
use Rattle.std.specs.Int.{int_gap}
use Rattle.std.specs.declared.ops.Bound.{Bound}
use Rattle.std.specs.declared.ops.Bound.TheVariants.{Included, Excluded, Unbounded}
use Rattle.std.proofs.Common.{arith, sym}
use Rattle.std.proofs.lemmas.Bool.{le-leb, leb-true, lt-ltb, ltb-true}
use Rattle.std.proofs.lemmas.Int.{ints}
use Rattle.nanorand_core.specs.values.Range.{is_above, is_below, unsigned_number, signed_number, signed_rank, Admits, IfBound}
use Rattle.nanorand_core.specs.values.Range.{IsNumber, HasUnsigned, HasSigned, unsigned_first, unsigned_end}
use Rattle.nanorand_core.specs.values.Range.{signed_first, signed_end}

-- the least number that a low bound admits lies within it, and every number before the end of a
-- high bound lies within that bound
above_first : (low : Bound ℕ) → is_above nat_le nat_lt low (unsigned_first low) ≡ true
above_first (Included b) = le-leb b b (omega arith)
above_first (Excluded b) = lt-ltb b (b + 1) (omega arith)
above_first Unbounded = refl

below_end : (bits k : ℕ) (high : Bound ℕ) → k < unsigned_end bits high → is_below nat_le nat_lt high k ≡ true
below_end bits k (Included b) below = le-leb k b (omega arith)
below_end bits k (Excluded b) below = lt-ltb k b (omega arith)
below_end bits k Unbounded below = refl

end_fits : (bits : ℕ) (high : Bound ℕ) → IfBound high (IsNumber bits unsigned_number) → unsigned_end bits high ≤ 2 ^ bits
end_fits bits (Included b) number = omega (arith, number.1, number.2)
end_fits bits (Excluded b) number = omega (arith, number.1, number.2)
end_fits bits Unbounded number = omega arith

pub unsigned_has_place : (bits : ℕ) (low high : Bound ℕ) → IfBound low (IsNumber bits unsigned_number) → IfBound high (IsNumber bits unsigned_number)
    → HasUnsigned bits low high → (k : ℕ) × (k < 2 ^ bits) × Admits nat_le nat_lt low high (unsigned_number k)
unsigned_has_place bits low high low_number high_number has =
    let fits = end_fits bits high high_number in
    (unsigned_first low, omega arith, (above_first low, below_end bits (unsigned_first low) high has))

-- conversely, a number within a low bound is not below the least number that the bound admits, and
-- a number within a high bound is before its end
first_below : (low : Bound ℕ) (k : ℕ) → is_above nat_le nat_lt low k ≡ true → unsigned_first low ≤ k
first_below (Included b) k above = leb-true b k above
first_below (Excluded b) k above = omega (arith, ltb-true b k above)
first_below Unbounded k above = omega arith

before_end : (bits : ℕ) (high : Bound ℕ) (k : ℕ) → k < 2 ^ bits → is_below nat_le nat_lt high k ≡ true → k < unsigned_end bits high
before_end bits (Included b) k fits below = omega (arith, leb-true k b below)
before_end bits (Excluded b) k fits below = ltb-true k b below
before_end bits Unbounded k fits below = fits

pub unsigned_has_number : (bits : ℕ) (low high : Bound ℕ) (k : ℕ) → k < 2 ^ bits → Admits nat_le nat_lt low high (unsigned_number k)
    → HasUnsigned bits low high
unsigned_has_number bits low high k fits admits = omega (arith, first_below low k admits.0, before_end bits high k fits admits.1)

signed_above : (bits : ℕ) (low : Bound ℤ) (x : ℤ) → signed_first bits low ≡ x → is_above int_le int_lt low x ≡ true
signed_above bits (Included b) x first = grind (arith, ints)
signed_above bits (Excluded b) x first = grind (arith, ints)
signed_above bits Unbounded x first = refl

signed_below : (bits : ℕ) (high : Bound ℤ) (x : ℤ) → x <ℤ signed_end bits high → is_below int_le int_lt high x ≡ true
signed_below bits (Included b) x below = grind (arith, ints)
signed_below bits (Excluded b) x below = grind (arith, ints)
signed_below bits Unbounded x below = refl

-- the ranks of the least number that a low bound admits, and of a high bound's end
first_rank : (bits : ℕ) (low : Bound ℤ) → IfBound low (IsNumber bits (signed_number bits)) → (k : ℕ) × (signed_first bits low ≡ signed_number bits k)
first_rank bits (Included b) number = (number.0, sym number.2)
first_rank bits (Excluded b) number = let is : signed_number bits number.0 ≡ b = number.2 in (number.0 + 1, grind (arith, ints))
first_rank bits Unbounded number = (0, refl)

end_rank : (bits : ℕ) → 2 ^ bits ≡ 2 * 2 ^ (bits - 1) → (high : Bound ℤ) → IfBound high (IsNumber bits (signed_number bits))
    → (m : ℕ) × (m ≤ 2 ^ bits) × (signed_end bits high ≡ signed_number bits m)
end_rank bits half (Included b) number = let is : signed_number bits number.0 ≡ b = number.2 in (number.0 + 1, omega (arith, number.1), grind (arith, ints))
end_rank bits half (Excluded b) number = (number.0, omega (arith, number.1), sym number.2)
end_rank bits half Unbounded number = (2 ^ bits, omega arith, grind (arith, ints))

shifted_lt_back : (m j k : ℕ) → (pos j -ℤ pos m) <ℤ (pos k -ℤ pos m) → j < k
shifted_lt_back m j k h = omega (arith, ints)

pub signed_has_place : (bits : ℕ) → 2 ^ bits ≡ 2 * 2 ^ (bits - 1) → (low high : Bound ℤ)
    → IfBound low (IsNumber bits (signed_number bits)) → IfBound high (IsNumber bits (signed_number bits))
    → HasSigned bits low high → (k : ℕ) × (k < 2 ^ bits) × Admits int_le int_lt low high (signed_number bits k)
signed_has_place bits half low high low_number high_number has =
    let first = first_rank bits low low_number in
    let end = end_rank bits half high high_number in
    let below : signed_number bits first.0 <ℤ signed_end bits high = rw (← first.1) has in
    let under : first.0 < end.0 = shifted_lt_back (2 ^ (bits - 1)) first.0 end.0 (rw end.2 at below) in
    (first.0, omega (arith, end.1), (signed_above bits low (signed_number bits first.0) first.1, signed_below bits high (signed_number bits first.0) below))

signed_first_below : (bits : ℕ) (low : Bound ℤ) (x : ℤ) → signed_first bits Unbounded ≤ℤ x → is_above int_le int_lt low x ≡ true
    → signed_first bits low ≤ℤ x
signed_first_below bits (Included b) x least above = grind (arith, ints)
signed_first_below bits (Excluded b) x least above = grind (arith, ints)
signed_first_below bits Unbounded x least above = least

signed_before_end : (bits : ℕ) (high : Bound ℤ) (x : ℤ) → x <ℤ signed_end bits Unbounded → is_below int_le int_lt high x ≡ true
    → x <ℤ signed_end bits high
signed_before_end bits (Included b) x greatest below = grind (arith, ints)
signed_before_end bits (Excluded b) x greatest below = grind (arith, ints)
signed_before_end bits Unbounded x greatest below = greatest

pub signed_has_number : (bits : ℕ) → 2 ^ bits ≡ 2 * 2 ^ (bits - 1) → (low high : Bound ℤ) (k : ℕ) → k < 2 ^ bits
    → Admits int_le int_lt low high (signed_number bits k) → HasSigned bits low high
signed_has_number bits half low high k fits admits =
    let x : ℤ = signed_number bits k in
    let first : signed_first bits low ≤ℤ x = signed_first_below bits low x (omega (arith, ints)) admits.0 in
    let end : x <ℤ signed_end bits high = signed_before_end bits high x (omega (arith, ints, fits, half)) admits.1 in
    omega (arith, ints, first, end)

-- the gap is the difference of the numbers, and the rank of the number of rank k is k
gap-is : (x y : ℤ) → x ≤ℤ y → pos (int_gap x y) ≡ y -ℤ x
gap-is (pos a) (pos b) rises = grind (arith, ints)
gap-is (pos a) (negsuc b) rises = grind (arith, ints)
gap-is (negsuc a) (pos b) rises = grind (arith, ints)
gap-is (negsuc a) (negsuc b) rises = grind (arith, ints)

pub signed_ranked : (bits k : ℕ) → k < 2 ^ bits → signed_rank bits (signed_number bits k) ≡ k
signed_ranked bits k fits =
    let least : ℤ = pos 0 -ℤ pos (2 ^ (bits - 1)) in
    let number : ℤ = signed_number bits k in
    let gap : pos (signed_rank bits number) ≡ number -ℤ least = gap-is least number (grind (arith, ints)) in
    omega (arith, ints, gap)
