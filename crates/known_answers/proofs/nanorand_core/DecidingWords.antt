-- Known answers: where runs begin and how many words they have; ranges that are decided by their
-- first word, by a word after rejected ones, and by none.
use Rattle.std.specs.Prelude.{◌≡◌, ◌%◌, ◌==◌, [], ◌∷◌, is_none, map, refl, ℕ, ◌+◌, ◌-◌, ◌^◌, ℤ, List, ◌++◌, Some, None, Result, Ok, Err, replicate, pos, negsuc}
use Rattle.std.specs.List.{range_with_len}
use Rattle.nanorand_core.specs.values.Runs.{named, quota, rejected, first_word, words_that}
use Rattle.nanorand_core.specs.values.Fairness.{passes}
use Rattle.std.proofs.Common.{arith}
use Rattle.std.specs.declared.ops.Bound.{Bound}
use Rattle.std.specs.declared.ops.Bound.TheVariants.{Included, Excluded, Unbounded}
use Rattle.nanorand_core.specs.generators.Blocks.{taken}
use Rattle.nanorand_core.specs.values.Range.{range_within}
use Rattle.nanorand_core.specs.values.Draws.{unsigned_outcome, signed_outcome, value_drawn, left_by, left_after, words_from}
use Rattle.nanorand_core.specs.declared.values.range.RangeError.{RangeError}
use Rattle.nanorand_core.specs.declared.values.range.RangeError.TheVariants.{Empty, Exhausted}
use Rattle.nanorand_core.proofs.lemmas.ranges.RunLemmas.{picks, rejects, names-itself}
use Rattle.known_answers.proofs.nanorand_core.SmallGenerators.{script}

-- For the size 3, each number is drawn by 85 bytes, and one byte is rejected.
runs_of_three : map (first_word 8 3) (0 ∷ 1 ∷ 2 ∷ []) ≡ 1 ∷ 86 ∷ 171 ∷ []
runs_of_three = refl

shares_of_three : (quota 8 3 ≡ 85) × (rejected 8 3 ≡ 1)
shares_of_three = (refl, refl)

words_of_three : map (λ k. words_that 8 (λ word. passes (λ j. j == k) (named 8 3 word))) (0 ∷ 1 ∷ 2 ∷ []) ≡ 85 ∷ 85 ∷ 85 ∷ []
unfolding named words_that
words_of_three = refl

-- For the size 6, a die, each number is drawn by 42 bytes, and four bytes are rejected.
words_of_six : map (λ k. words_that 8 (λ word. passes (λ j. j == k) (named 8 6 word))) (range_with_len 0 6) ≡ 42 ∷ 42 ∷ 42 ∷ 42 ∷ 42 ∷ 42 ∷ []
unfolding named words_that
words_of_six = refl

-- For each size up to 16, and for 171, the number of rejected bytes is 256 modulo the size.
rejected_bytes : map (λ size. words_that 8 (λ word. is_none (named 8 size word))) (range_with_len 1 16) ≡ map (λ size. 256 % size) (range_with_len 1 16)
unfolding named words_that
rejected_bytes = refl

rejected_of_171 : words_that 8 (λ word. is_none (named 8 171 word)) ≡ 85
unfolding named words_that
rejected_of_171 = refl

-- The outcome of a range with the bytes of a list, each of which is a block of eight equal bytes,
-- and with zeros after the list. The state is the number of blocks drawn.
abbrev unsigned_by : ℕ → List ℕ → Bound ℕ → Bound ℕ → Result ℕ RangeError × ℕ
unsigned_by drawn bytes low high = unsigned_outcome (script bytes) 8 drawn low high

abbrev signed_by : List ℕ → Bound ℤ → Bound ℤ → Result ℤ RangeError × ℕ
signed_by bytes low high = signed_outcome (script bytes) 8 0 low high

-- u8: the greatest number; four numbers drawn by the word 0; 10..=12 drawn by the last of 128
-- words; and a word that comes too late and decides the next call.
greatest_byte : unsigned_by 0 (255 ∷ []) Unbounded Unbounded ≡ (Ok 255, 1)
unfolding named range_within words_from value_drawn left_by left_after taken
greatest_byte = refl

four_by_zero : unsigned_by 0 [] (Included 10) (Included 13) ≡ (Ok 10, 1)
unfolding named range_within words_from value_drawn left_by left_after taken
four_by_zero = refl

last_of_128 : unsigned_by 0 (replicate 127 0 ++ 1 ∷ []) (Included 10) (Included 12) ≡ (Ok 10, 128)
unfolding named range_within words_from value_drawn left_by left_after taken
last_of_128 = refl

one_too_late : unsigned_by 0 (replicate 128 0 ++ 1 ∷ []) (Included 10) (Included 12) ≡ (Err Exhausted, 128)
unfolding named range_within words_from value_drawn left_by left_after taken
one_too_late = refl

same_call_again : unsigned_by 128 (replicate 128 0 ++ 1 ∷ []) (Included 10) (Included 12) ≡ (Ok 10, 129)
unfolding named range_within words_from value_drawn left_by left_after taken
same_call_again = refl

-- i8: the whole type, and parts of it.
middle_of_all : signed_by (128 ∷ []) Unbounded Unbounded ≡ (Ok (pos 0), 1)
unfolding named range_within words_from value_drawn left_by left_after taken
middle_of_all = refl

greatest_of_all : signed_by (255 ∷ []) Unbounded Unbounded ≡ (Ok (pos 127), 1)
unfolding named range_within words_from value_drawn left_by left_after taken
greatest_of_all = refl

least_about_zero : signed_by (1 ∷ []) (Excluded (negsuc 1)) (Excluded (pos 2)) ≡ (Ok (negsuc 0), 1)
unfolding named range_within words_from value_drawn left_by left_after taken
least_about_zero = refl

all_but_the_least : signed_by (0 ∷ 1 ∷ []) (Excluded (negsuc 127)) Unbounded ≡ (Ok (negsuc 126), 2)
unfolding named range_within words_from value_drawn left_by left_after taken
all_but_the_least = refl

-- A range of one number accepts every word of 8 bits.
one_by_every_word : map (λ word. signed_by (word ∷ []) (Excluded (pos 5)) (Included (pos 6))) (range_with_len 0 256) ≡ replicate 256 (Ok (pos 6), 1)
unfolding named range_within words_from value_drawn left_by left_after taken
one_by_every_word = refl

-- Empty ranges draw nothing.
nothing_below_itself : unsigned_by 0 [] (Included 10) (Included 9) ≡ (Err Empty, 0)
unfolding named range_within words_from value_drawn left_by left_after taken
nothing_below_itself = refl

nothing_reversed : unsigned_by 0 [] (Included 10) (Included 5) ≡ (Err Empty, 0)
unfolding named range_within words_from value_drawn left_by left_after taken
nothing_reversed = refl

nothing_past_the_greatest : unsigned_by 0 [] (Excluded 255) Unbounded ≡ (Err Empty, 0)
unfolding named range_within words_from value_drawn left_by left_after taken
nothing_past_the_greatest = refl

nothing_at_the_least : signed_by [] (Included (negsuc 127)) (Excluded (negsuc 127)) ≡ (Err Empty, 0)
unfolding named range_within words_from value_drawn left_by left_after taken
nothing_at_the_least = refl

nothing_between : signed_by [] (Excluded (pos 5)) (Excluded (pos 6)) ≡ (Err Empty, 0)
unfolding named range_within words_from value_drawn left_by left_after taken
nothing_between = refl

nothing_past_the_greatest_signed : signed_by [] (Excluded (pos 127)) Unbounded ≡ (Err Empty, 0)
unfolding named range_within words_from value_drawn left_by left_after taken
nothing_past_the_greatest_signed = refl

nothing_below_the_least : signed_by [] Unbounded (Excluded (negsuc 127)) ≡ (Err Empty, 0)
unfolding named range_within words_from value_drawn left_by left_after taken
nothing_below_the_least = refl

-- Words of 64 bits. For the size 2^63 + 1, the first words are rejected and accepted alternately.
-- For the size 2^64, each word draws itself.
none_by_zero : named 64 (2 ^ 63 + 1) 0 ≡ None
none_by_zero = rejects 64 (2 ^ 63 + 1) 0 (omega arith) (omega arith)

first_by_one : named 64 (2 ^ 63 + 1) 1 ≡ Some 0
first_by_one = picks 64 (2 ^ 63 + 1) 1 (omega arith) (omega arith) (omega arith)

none_by_two : named 64 (2 ^ 63 + 1) 2 ≡ None
none_by_two = rejects 64 (2 ^ 63 + 1) 2 (omega arith) (omega arith)

second_by_three : named 64 (2 ^ 63 + 1) 3 ≡ Some 1
second_by_three = picks 64 (2 ^ 63 + 1) 3 (omega arith) (omega arith) (omega arith)

last_by_the_greatest : named 64 (2 ^ 63 + 1) (2 ^ 64 - 1) ≡ Some (2 ^ 63)
last_by_the_greatest = picks 64 (2 ^ 63 + 1) (2 ^ 64 - 1) (omega arith) (omega arith) (omega arith)

greatest_names_itself : named 64 (2 ^ 64) (2 ^ 64 - 1) ≡ Some (2 ^ 64 - 1)
greatest_names_itself = names-itself 64 (2 ^ 64 - 1) (omega arith)
