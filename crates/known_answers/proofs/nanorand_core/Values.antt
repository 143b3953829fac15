-- Known answers: blocks, the values of bytes, and ranges of whole types.
use Rattle.std.specs.Prelude.{◌≡◌, [], ◌∷◌, refl, negsuc, true, false, pos, int_le, int_lt}
use Rattle.std.specs.Int.{w8}
use Rattle.nanorand_core.specs.generators.Blocks.{taken}
use Rattle.nanorand_core.specs.values.Values.{number_of, signed_number_of, truth_of}
use Rattle.known_answers.proofs.nanorand_core.SmallGenerators.{steps, script}
use Rattle.std.proofs.Common.{ℕ, ◌+◌, ◌-◌, ◌^◌, Ok, length, map, nat_le, nat_lt, ap, ◌∙◌, inl, inr, arith, sym}
use Rattle.std.specs.List.{range_with_len}
use Rattle.std.specs.declared.ops.Bound.TheVariants.{Included, Excluded, Unbounded}
use Rattle.std.proofs.lemmas.Bool.{cases_lt, le-leb, lt-leb, lt-ltb, le-ltb}
use Rattle.std.proofs.lemmas.List.FromFn.{length-map-range_with_len}
use Rattle.std.proofs.lemmas.Nat.{pow_pos}
use Rattle.nanorand_core.specs.values.Runs.{named}
use Rattle.nanorand_core.specs.values.Range.{unsigned_number, signed_number, unsigned_range, signed_range}
use Rattle.nanorand_core.specs.support.NumberOrderLemmas.{int_le-signed, int_lt-signed}
use Rattle.nanorand_core.specs.values.Draws.{unsigned_outcome, range_outcome, words_from, value_drawn, left_by, left_after}
use Rattle.nanorand_core.proofs.lemmas.ranges.RangeLemmas.{range-empty, range-places}

-- Sixteen bytes take two blocks.
two_blocks_drawn : steps.after 0 16 ≡ 2
two_blocks_drawn = refl

-- Nine bytes take two blocks, and zero bytes take none.
nine_bytes : steps.bytes 0 9 ≡ 0 ∷ 1 ∷ 2 ∷ 3 ∷ 4 ∷ 5 ∷ 6 ∷ 7 ∷ 8 ∷ []
unfolding taken
nine_bytes = refl

blocks_of_nine_bytes : steps.after 0 9 ≡ 2
blocks_of_nine_bytes = refl

blocks_of_nothing : steps.after 0 0 ≡ 0
blocks_of_nothing = refl

-- Numbers and truth values from bytes.
signed_byte : signed_number_of w8 (218 ∷ []) ≡ negsuc 37
signed_byte = refl

low_byte_first : number_of (0x10 ∷ 0x11 ∷ []) ≡ 0x1110
low_byte_first = refl

seed_of_8_bytes : number_of (0x2a ∷ 0 ∷ 0 ∷ 0 ∷ 0 ∷ 0 ∷ 0 ∷ 0 ∷ []) ≡ 42
seed_of_8_bytes = refl

seed_of_16_bytes : number_of (1 ∷ 0 ∷ 0 ∷ 0 ∷ 0 ∷ 0 ∷ 0 ∷ 0 ∷ 0 ∷ 0 ∷ 0 ∷ 0 ∷ 0 ∷ 0 ∷ 0 ∷ 0 ∷ []) ≡ 1
seed_of_16_bytes = refl

truth_below_half : truth_of (127 ∷ []) ≡ true
truth_below_half = refl

no_truth_from_half : truth_of (128 ∷ []) ≡ false
no_truth_from_half = refl

-- The unsigned and the signed type of `bits` bits have 2^bits numbers, in the order of their ranks.
all_unsigned : (bits : ℕ) → unsigned_range bits Unbounded Unbounded ≡ map unsigned_number (range_with_len 0 (2 ^ bits))
all_unsigned bits =
    let whole : 2 ^ bits - 0 ≡ 2 ^ bits = omega arith in
    range-places nat_le nat_lt bits unsigned_number Unbounded Unbounded 0 (2 ^ bits)
    (λ k. sym (le-leb 0 k (omega arith))) (λ k in_type. sym (lt-ltb k (2 ^ bits) in_type)) (omega arith) (pow_pos bits)
    ∙ ap (λ (n : ℕ). map unsigned_number (range_with_len 0 n)) whole

all_signed : (bits : ℕ) → signed_range bits Unbounded Unbounded ≡ map (signed_number bits) (range_with_len 0 (2 ^ bits))
all_signed bits =
    let whole : 2 ^ bits - 0 ≡ 2 ^ bits = omega arith in
    range-places int_le int_lt bits (signed_number bits) Unbounded Unbounded 0 (2 ^ bits)
    (λ k. sym (le-leb 0 k (omega arith))) (λ k in_type. sym (lt-ltb k (2 ^ bits) in_type)) (omega arith) (pow_pos bits)
    ∙ ap (λ (n : ℕ). map (signed_number bits) (range_with_len 0 n)) whole

count_of_unsigned : (bits : ℕ) → length (unsigned_range bits Unbounded Unbounded) ≡ 2 ^ bits
count_of_unsigned bits = ap length (all_unsigned bits) ∙ length-map-range_with_len unsigned_number 0 (2 ^ bits)

count_of_signed : (bits : ℕ) → length (signed_range bits Unbounded Unbounded) ≡ 2 ^ bits
count_of_signed bits = ap length (all_signed bits) ∙ length-map-range_with_len (signed_number bits) 0 (2 ^ bits)

-- A range from the greatest number up, or from the least number down, has only that number.
module _ (bits : ℕ) where
  last : 2 ^ bits - (2 ^ bits - 1) ≡ 1
  last = omega (arith, pow_pos bits)

  greatest_unsigned : unsigned_range bits (Included (2 ^ bits - 1)) Unbounded ≡ (2 ^ bits - 1) ∷ []
  greatest_unsigned =
      range-places nat_le nat_lt bits unsigned_number (Included (2 ^ bits - 1)) Unbounded (2 ^ bits - 1) (2 ^ bits)
      (λ k. refl) (λ k in_type. sym (lt-ltb k (2 ^ bits) in_type)) (omega arith) (omega (arith, pow_pos bits))
      ∙ ap (λ (n : ℕ). map unsigned_number (range_with_len (2 ^ bits - 1) n)) last

  greatest_signed : signed_range bits (Included (signed_number bits (2 ^ bits - 1))) Unbounded ≡ signed_number bits (2 ^ bits - 1) ∷ []
  greatest_signed =
      range-places int_le int_lt bits (signed_number bits) (Included (signed_number bits (2 ^ bits - 1))) Unbounded (2 ^ bits - 1) (2 ^ bits)
      (λ k. int_le-signed bits (2 ^ bits - 1) k) (λ k in_type. sym (lt-ltb k (2 ^ bits) in_type)) (omega arith) (omega (arith, pow_pos bits))
      ∙ ap (λ (n : ℕ). map (signed_number bits) (range_with_len (2 ^ bits - 1) n)) last

  least_unsigned : unsigned_range bits Unbounded (Excluded 1) ≡ 0 ∷ []
  least_unsigned =
      range-places nat_le nat_lt bits unsigned_number Unbounded (Excluded 1) 0 1
      (λ k. sym (le-leb 0 k (omega arith))) (λ k in_type. refl) (pow_pos bits) (omega arith)

  least_signed : signed_range bits Unbounded (Excluded (signed_number bits 1)) ≡ signed_number bits 0 ∷ []
  least_signed =
      range-places int_le int_lt bits (signed_number bits) Unbounded (Excluded (signed_number bits 1)) 0 1
      (λ k. sym (le-leb 0 k (omega arith))) (λ k in_type. int_lt-signed bits k 1) (pow_pos bits) (omega arith)

-- The numbers of the first and the last rank.
least_and_greatest_of_8 : map (signed_number 8) (0 ∷ (2 ^ 8 - 1) ∷ []) ≡ negsuc 127 ∷ pos 127 ∷ []
least_and_greatest_of_8 = refl

least_and_greatest_of_16 : map (signed_number 16) (0 ∷ (2 ^ 16 - 1) ∷ []) ≡ negsuc 32767 ∷ pos 32767 ∷ []
least_and_greatest_of_16 = refl

least_and_greatest_of_32 : map (signed_number 32) (0 ∷ (2 ^ 32 - 1) ∷ []) ≡ negsuc 2147483647 ∷ pos 2147483647 ∷ []
least_and_greatest_of_32 = refl

least_and_greatest_of_64 : map (signed_number 64) (0 ∷ (2 ^ 64 - 1) ∷ []) ≡ negsuc 9223372036854775807 ∷ pos 9223372036854775807 ∷ []
least_and_greatest_of_64 = refl

-- u64 7..=7, drawn by a word of zeros and by a word of ones.
up_to_seven : (k : ℕ) → nat_le k 7 ≡ nat_lt k 8
up_to_seven k =
    elim (cases_lt k 8) [
      | inl under ↦ le-leb k 7 (omega arith) ∙ sym (lt-ltb k 8 under)
      | inr over ↦ lt-leb k 7 (omega arith) ∙ sym (le-ltb k 8 over)
    ]

just_seven : unsigned_range 64 (Included 7) (Included 7) ≡ 7 ∷ []
just_seven = range-places nat_le nat_lt 64 unsigned_number (Included 7) (Included 7) 7 8 (λ k. refl) (λ k in_type. up_to_seven k) (omega arith) (omega arith)

seven_by_zeros : unsigned_outcome (script (0 ∷ [])) 64 0 (Included 7) (Included 7) ≡ (Ok 7, 1)
unfolding named words_from value_drawn left_by left_after taken
seven_by_zeros = ap (λ numbers. range_outcome (script (0 ∷ [])) 64 numbers 0) just_seven ∙ refl

seven_by_ones : unsigned_outcome (script (255 ∷ [])) 64 0 (Included 7) (Included 7) ≡ (Ok 7, 1)
unfolding named words_from value_drawn left_by left_after taken
seven_by_ones = ap (λ numbers. range_outcome (script (255 ∷ [])) 64 numbers 0) just_seven ∙ refl

-- i32 10..=5 is empty, which is shown without listing the type.
up_to_five : (k : ℕ) → nat_le k (2 ^ 31 + 5) ≡ nat_lt k (2 ^ 31 + 6)
up_to_five k =
    elim (cases_lt k (2 ^ 31 + 6)) [
      | inl under ↦ le-leb k (2 ^ 31 + 5) (omega arith) ∙ sym (lt-ltb k (2 ^ 31 + 6) under)
      | inr over ↦ lt-leb k (2 ^ 31 + 5) (omega arith) ∙ sym (le-ltb k (2 ^ 31 + 6) over)
    ]

reversed_bounds : signed_range 32 (Included (pos 10)) (Included (pos 5)) ≡ []
reversed_bounds =
    range-empty int_le int_lt 32 (signed_number 32) (Included (pos 10)) (Included (pos 5)) (2 ^ 31 + 10) (2 ^ 31 + 6)
    (λ k. int_le-signed 32 (2 ^ 31 + 10) k) (λ k in_type. int_le-signed 32 k (2 ^ 31 + 5) ∙ up_to_five k) (omega arith) (omega arith)
