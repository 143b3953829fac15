-- Known answers: ranges by their bounds, for the nine pairs of kinds of bounds and both ends of the
-- types; and draws from them.
use Rattle.std.specs.Prelude.{◌≡◌, ◌+◌, ◌==◌, [], ◌∷◌, Some, None, Ok, Err, replicate, pos, negsuc, ◌++◌, map, nat_lt, refl}
use Rattle.std.specs.Ordering.{int_eq}
use Rattle.std.specs.declared.ops.Bound.TheVariants.{Included, Excluded, Unbounded}
use Rattle.nanorand_core.specs.generators.Blocks.{taken, plain}
use Rattle.nanorand_core.specs.values.Runs.{named, words_that}
use Rattle.nanorand_core.specs.values.Range.{unsigned_range, signed_range, range_within, signed_number}
use Rattle.nanorand_core.specs.values.Draws.{unsigned_outcome, signed_outcome, deciding_place, value_drawn, left_by, left_after, words_from}
use Rattle.nanorand_core.specs.values.Fairness.{words_giving}
use Rattle.nanorand_core.specs.declared.values.range.RangeError.TheVariants.{Empty, Exhausted}
use Rattle.known_answers.proofs.nanorand_core.SmallGenerators.{script, steps}
use Rattle.std.specs.List.{range_with_len}

-- The numbers that words of 8 bits draw, for the sizes 3, 171 and 256.
thirds_of_a_byte : map (named 8 3) (0 ∷ 1 ∷ 85 ∷ 86 ∷ 170 ∷ 171 ∷ 255 ∷ []) ≡ None ∷ Some 0 ∷ Some 0 ∷ Some 1 ∷ Some 1 ∷ Some 2 ∷ Some 2 ∷ []
unfolding named
thirds_of_a_byte = refl

two_thirds_of_a_byte : map (named 8 171) (0 ∷ 1 ∷ 2 ∷ 3 ∷ 4 ∷ 255 ∷ []) ≡ None ∷ Some 0 ∷ Some 1 ∷ None ∷ Some 2 ∷ Some 170 ∷ []
unfolding named
two_thirds_of_a_byte = refl

every_byte : map (named 8 256) (0 ∷ 255 ∷ []) ≡ Some 0 ∷ Some 255 ∷ []
unfolding named
every_byte = refl

-- Ranges of u8.
closed_range : unsigned_range 8 (Included 10) (Included 12) ≡ 10 ∷ 11 ∷ 12 ∷ []
unfolding range_within
closed_range = refl

reversed_range : unsigned_range 8 (Included 10) (Included 5) ≡ []
unfolding range_within
reversed_range = refl

range_past_the_greatest : unsigned_range 8 (Excluded 255) Unbounded ≡ []
unfolding range_within
range_past_the_greatest = refl

range_of_the_greatest : unsigned_range 8 (Excluded 254) Unbounded ≡ 255 ∷ []
unfolding range_within
range_of_the_greatest = refl

-- Ranges of i8.
range_about_zero : signed_range 8 (Excluded (negsuc 1)) (Excluded (pos 2)) ≡ negsuc 0 ∷ pos 0 ∷ pos 1 ∷ []
unfolding range_within
range_about_zero = refl

range_of_one : signed_range 8 (Excluded (pos 5)) (Included (pos 6)) ≡ pos 6 ∷ []
unfolding range_within
range_of_one = refl

range_below_the_least : signed_range 8 Unbounded (Excluded (negsuc 127)) ≡ []
unfolding range_within
range_below_the_least = refl

range_past_the_greatest_signed : signed_range 8 (Excluded (pos 127)) Unbounded ≡ []
unfolding range_within
range_past_the_greatest_signed = refl

-- Of 127 zeros and a one, the last word decides. Of 128 zeros, none does.
last_word_decides : deciding_place 8 3 (replicate 127 0 ++ 1 ∷ []) ≡ Some 127
unfolding named
last_word_decides = refl

no_word_decides : deciding_place 8 3 (replicate 128 0) ≡ None
unfolding named
no_word_decides = refl

-- u8 10..=12 from the bytes 0, 1, 2, .. in blocks of eight: the word 0 is rejected, and the word 8
-- draws the rank 0.
second_word_decides : unsigned_outcome steps 8 0 (Included 10) (Included 12) ≡ (Ok 10, 2)
unfolding named range_within words_from value_drawn left_by left_after taken
second_word_decides = refl

-- The same from zeros: 128 words are rejected.
zeros_exhaust : unsigned_outcome (plain (λ n. replicate 8 0) (λ n. n + 1) 8) 8 0 (Included 10) (Included 12) ≡ (Err Exhausted, 128)
unfolding named range_within words_from value_drawn left_by left_after taken
zeros_exhaust = refl

nothing_drawn : unsigned_outcome steps 8 0 (Included 5) (Excluded 5) ≡ (Err Empty, 0)
unfolding named range_within words_from value_drawn left_by left_after taken
nothing_drawn = refl

-- i8 -1..=1 by the word 1.
least_by_one : signed_outcome (script (1 ∷ [])) 8 0 (Included (negsuc 0)) (Included (pos 1)) ≡ (Ok (negsuc 0), 1)
unfolding named range_within words_from value_drawn left_by left_after taken
least_by_one = refl

-- i8 -1..=1 by the word 8, and the whole of i8 by the word 0.
signed_by_the_word : signed_outcome steps 8 1 (Included (negsuc 0)) (Included (pos 1)) ≡ (Ok (negsuc 0), 2)
unfolding named range_within words_from value_drawn left_by left_after taken
signed_by_the_word = refl

least_of_all : signed_outcome steps 8 0 Unbounded Unbounded ≡ (Ok (negsuc 127), 1)
unfolding named range_within words_from value_drawn left_by left_after taken
least_of_all = refl

-- u8: each pair of kinds of bounds.
u8_included_included : unsigned_range 8 (Included 3) (Included 6) ≡ 3 ∷ 4 ∷ 5 ∷ 6 ∷ []
unfolding range_within
u8_included_included = refl

u8_included_excluded : unsigned_range 8 (Included 3) (Excluded 6) ≡ 3 ∷ 4 ∷ 5 ∷ []
unfolding range_within
u8_included_excluded = refl

u8_included_unbounded : unsigned_range 8 (Included 3) Unbounded ≡ range_with_len 3 253
unfolding range_within
u8_included_unbounded = refl

u8_excluded_included : unsigned_range 8 (Excluded 3) (Included 6) ≡ 4 ∷ 5 ∷ 6 ∷ []
unfolding range_within
u8_excluded_included = refl

u8_excluded_excluded : unsigned_range 8 (Excluded 3) (Excluded 6) ≡ 4 ∷ 5 ∷ []
unfolding range_within
u8_excluded_excluded = refl

u8_excluded_unbounded : unsigned_range 8 (Excluded 3) Unbounded ≡ range_with_len 4 252
unfolding range_within
u8_excluded_unbounded = refl

u8_unbounded_included : unsigned_range 8 Unbounded (Included 6) ≡ 0 ∷ 1 ∷ 2 ∷ 3 ∷ 4 ∷ 5 ∷ 6 ∷ []
unfolding range_within
u8_unbounded_included = refl

u8_unbounded_excluded : unsigned_range 8 Unbounded (Excluded 6) ≡ 0 ∷ 1 ∷ 2 ∷ 3 ∷ 4 ∷ 5 ∷ []
unfolding range_within
u8_unbounded_excluded = refl

u8_unbounded_unbounded : unsigned_range 8 Unbounded Unbounded ≡ range_with_len 0 256
unfolding range_within
u8_unbounded_unbounded = refl

-- i8: numbers on both sides of 0; the rank of a number is the number plus 128.
i8_included_included : signed_range 8 (Included (negsuc 1)) (Included (pos 2)) ≡ negsuc 1 ∷ negsuc 0 ∷ pos 0 ∷ pos 1 ∷ pos 2 ∷ []
unfolding range_within
i8_included_included = refl

i8_included_excluded : signed_range 8 (Included (negsuc 1)) (Excluded (pos 2)) ≡ negsuc 1 ∷ negsuc 0 ∷ pos 0 ∷ pos 1 ∷ []
unfolding range_within
i8_included_excluded = refl

i8_included_unbounded : signed_range 8 (Included (negsuc 1)) Unbounded ≡ map (signed_number 8) (range_with_len 126 130)
unfolding range_within
i8_included_unbounded = refl

i8_excluded_included : signed_range 8 (Excluded (negsuc 1)) (Included (pos 2)) ≡ negsuc 0 ∷ pos 0 ∷ pos 1 ∷ pos 2 ∷ []
unfolding range_within
i8_excluded_included = refl

i8_excluded_excluded : signed_range 8 (Excluded (negsuc 1)) (Excluded (pos 2)) ≡ negsuc 0 ∷ pos 0 ∷ pos 1 ∷ []
unfolding range_within
i8_excluded_excluded = refl

i8_excluded_unbounded : signed_range 8 (Excluded (negsuc 1)) Unbounded ≡ map (signed_number 8) (range_with_len 127 129)
unfolding range_within
i8_excluded_unbounded = refl

i8_unbounded_included : signed_range 8 Unbounded (Included (pos 2)) ≡ map (signed_number 8) (range_with_len 0 131)
unfolding range_within
i8_unbounded_included = refl

i8_unbounded_excluded : signed_range 8 Unbounded (Excluded (pos 2)) ≡ map (signed_number 8) (range_with_len 0 130)
unfolding range_within
i8_unbounded_excluded = refl

i8_unbounded_unbounded : signed_range 8 Unbounded Unbounded ≡ map (signed_number 8) (range_with_len 0 256)
unfolding range_within
i8_unbounded_unbounded = refl

-- 16 bits: from the least number, and to the greatest.
u16_from_the_least : unsigned_range 16 Unbounded (Excluded 3) ≡ 0 ∷ 1 ∷ 2 ∷ []
unfolding range_within
u16_from_the_least = refl

u16_to_the_greatest : unsigned_range 16 (Included 65533) Unbounded ≡ 65533 ∷ 65534 ∷ 65535 ∷ []
unfolding range_within
u16_to_the_greatest = refl

i16_from_the_least : signed_range 16 (Included (negsuc 32767)) (Included (negsuc 32766)) ≡ negsuc 32767 ∷ negsuc 32766 ∷ []
unfolding range_within
i16_from_the_least = refl

i16_to_the_greatest : signed_range 16 (Excluded (pos 32765)) Unbounded ≡ pos 32766 ∷ pos 32767 ∷ []
unfolding range_within
i16_to_the_greatest = refl

-- Of the words of 8 bits, 42 draw a 3 from the range 1..=6, and 84 draw a number above 4.
words_for_three : words_giving 8 (unsigned_range 8 (Included 1) (Included 6)) (λ y. y == 3) ≡ 42
unfolding words_that named range_within
words_for_three = refl

words_for_five_or_six : words_giving 8 (unsigned_range 8 (Included 1) (Included 6)) (λ y. nat_lt 4 y) ≡ 84
unfolding words_that named range_within
words_for_five_or_six = refl

-- 42 words draw a -1 from the range -3..=2.
words_for_minus_one : words_giving 8 (signed_range 8 (Included (negsuc 2)) (Included (pos 2))) (λ y. int_eq y (negsuc 0)) ≡ 42
unfolding words_that named range_within
words_for_minus_one = refl
