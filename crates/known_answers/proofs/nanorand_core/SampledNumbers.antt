-- Known answers: samples by their draws, the sequences of draws of small counts, and samples from
-- words.
use Rattle.std.proofs.Common.{◌≡◌, ℕ, ◌+◌, ◌-◌, ◌^◌, ◌<◌, ◌||◌, nat_le, nat_lt, nat_eq, true, [], ◌∷◌, map, Ok, Err, refl, ◌∙◌, ap, arith}
use Rattle.std.specs.List.{list_all, range_with_len}
use Rattle.std.specs.declared.ops.Bound.TheVariants.{Included}
use Rattle.std.proofs.lemmas.Bool.Decides.{nat_tests}
use Rattle.nanorand_core.specs.generators.Blocks.{Requests, taken}
use Rattle.nanorand_core.specs.values.Range.{unsigned_number}
use Rattle.nanorand_core.specs.values.Runs.{named}
use Rattle.nanorand_core.specs.values.Draws.{range_outcome, words_from, value_drawn, left_by, left_after}
use Rattle.nanorand_core.specs.samples.Samples.{factorial, holds, joined, number_up_to, sampled, samples_that}
use Rattle.nanorand_core.specs.declared.values.range.RangeError.TheVariants.{Exhausted}
use Rattle.nanorand_core.proofs.lemmas.ranges.RangeLemmas.{range-places}
use Rattle.known_answers.proofs.nanorand_core.SmallGenerators.{script}

-- Three of ten numbers: a number that is drawn again is replaced by the greatest one that could be
-- drawn.
three_different : joined 9 2 (joined 8 1 (joined 7 0 [])) ≡ 0 ∷ 1 ∷ 2 ∷ []
three_different = refl

three_times_the_same : joined 9 3 (joined 8 3 (joined 7 3 [])) ≡ 3 ∷ 8 ∷ 9 ∷ []
three_times_the_same = refl

the_greatest_again : joined 9 8 (joined 8 7 (joined 7 7 [])) ≡ 7 ∷ 8 ∷ 9 ∷ []
the_greatest_again = refl

-- Two of four numbers: there are 12 sequences of draws, of which 6 draw each number and 2 draw each
-- pair. No sequence draws a pair with a number past the count.
pairs_of_four : samples_that 2 4 (λ sample. true) ≡ 12
pairs_of_four = refl

pairs_with : map (λ number. samples_that 2 4 (holds number)) (range_with_len 0 5) ≡ 6 ∷ 6 ∷ 6 ∷ 6 ∷ 0 ∷ []
pairs_with = refl

pair_of : ℕ → ℕ → ℕ
pair_of a b = samples_that 2 4 (list_all (λ number. nat_eq number a || nat_eq number b))

each_pair : map (pair_of 0) (1 ∷ 2 ∷ 3 ∷ 4 ∷ []) ≡ 2 ∷ 2 ∷ 2 ∷ 0 ∷ []
unfolding pair_of
each_pair = refl

-- Three of five numbers, all of three numbers, and none of three numbers.
threes_of_five : samples_that 3 5 (list_all (λ number. nat_lt number 3)) ≡ factorial 3
threes_of_five = refl

all_of_three : samples_that 3 3 (λ sample. true) ≡ 6
all_of_three = refl

none_of_three : samples_that 0 3 (λ sample. true) ≡ 1
none_of_three = refl

-- A draw from 0 to `last`, computed without listing all numbers of 64 bits.
pub number_from : (requests : Requests ℕ) (last g : ℕ) → last < 2 ^ 64
    → number_up_to requests last g ≡ range_outcome requests 64 (map unsigned_number (range_with_len 0 (last + 1))) g
unfolding number_up_to
number_from requests last g within =
    let size : last + 1 - 0 ≡ last + 1 = omega arith in
    ap (λ numbers. range_outcome requests 64 numbers g)
    (range-places nat_le nat_lt 64 unsigned_number (Included 0) (Included last) 0 (last + 1)
    (λ k. refl) (λ k in_type. grind (arith, nat_tests)) (omega arith) (omega arith))
    ∙ ap (λ (n : ℕ). range_outcome requests 64 (map unsigned_number (range_with_len 0 n)) g) size

-- Two of three numbers. The words draw 1 from 0, 1 and then 1 from 0, 1, 2.
drawn_twice : sampled (script (255 ∷ 128 ∷ [])) 2 3 0 ≡ record { answer = Ok tt; numbers = 1 ∷ 2 ∷ []; state = 2 }
unfolding named words_from value_drawn left_by left_after taken
drawn_twice =
    let first : number_up_to (script (255 ∷ 128 ∷ [])) 1 0 ≡ (Ok 1, 1) = number_from (script (255 ∷ 128 ∷ [])) 1 0 (omega arith) ∙ refl in
    let second : number_up_to (script (255 ∷ 128 ∷ [])) 2 1 ≡ (Ok 1, 2) = number_from (script (255 ∷ 128 ∷ [])) 2 1 (omega arith) ∙ refl in
    rw (first, second) refl

-- Below 3, zeros are rejected, so that the draw fails after 128 words. The first number stays.
second_refused : sampled (script (255 ∷ [])) 2 3 0 ≡ record { answer = Err Exhausted; numbers = 1 ∷ []; state = 129 }
unfolding named words_from value_drawn left_by left_after taken
second_refused =
    let first : number_up_to (script (255 ∷ [])) 1 0 ≡ (Ok 1, 1) = number_from (script (255 ∷ [])) 1 0 (omega arith) ∙ refl in
    let second : number_up_to (script (255 ∷ [])) 2 1 ≡ (Err Exhausted, 129) = number_from (script (255 ∷ [])) 2 1 (omega arith) ∙ refl in
    rw (first, second) refl
