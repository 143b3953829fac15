-- Known answers: shares of weights, sums that are errors, and choices by words of 64 bits.
use Rattle.std.specs.Prelude.{◌≡◌, ◌-◌, ◌^◌, ◌==◌, [], ◌∷◌, ◌++◌, Ok, Err, map, replicate, refl}
use Rattle.nanorand_core.specs.generators.Blocks.{taken}
use Rattle.nanorand_core.specs.values.Runs.{named, words_that}
use Rattle.nanorand_core.specs.values.Draws.{words_from, left_after}
use Rattle.nanorand_core.specs.values.Fairness.{passes}
use Rattle.nanorand_core.specs.shuffles.Arrangements.{rising}
use Rattle.nanorand_core.specs.choices.Weighted.{item_at, item_named, total_of, choice_answer, choice_state}
use Rattle.nanorand_core.specs.declared.choices.weighted.WeightError.TheVariants.{NoWeight, TooHeavy, Exhausted}
use Rattle.known_answers.proofs.nanorand_core.SmallGenerators.{script}

-- The items that the numbers below 10 choose, for the weights 0, 3, 0, 2 and 5.
shares_of_ten : map (item_at (0 ∷ 3 ∷ 0 ∷ 2 ∷ 5 ∷ [])) (rising 10) ≡ 1 ∷ 1 ∷ 1 ∷ 3 ∷ 3 ∷ 4 ∷ 4 ∷ 4 ∷ 4 ∷ 4 ∷ []
shares_of_ten = refl

-- Sums.
no_weights : total_of [] ≡ Err NoWeight
no_weights = refl

weights_of_zero : total_of (0 ∷ 0 ∷ []) ≡ Err NoWeight
weights_of_zero = refl

greatest_sum : total_of ((2 ^ 64 - 2) ∷ 0 ∷ 1 ∷ []) ≡ Ok (2 ^ 64 - 1)
greatest_sum = refl

sum_too_great : total_of ((2 ^ 63) ∷ (2 ^ 63) ∷ []) ≡ Err TooHeavy
sum_too_great = refl

-- Words of eight equal bytes, and the weights 0, 1, 0 and 3: the first quarter of all words chooses
-- item 1, and the others choose item 3.
end_of_the_first_quarter : choice_answer (script (63 ∷ [])) (0 ∷ 1 ∷ 0 ∷ 3 ∷ []) 0 ≡ Ok 1
unfolding named words_from left_after taken
end_of_the_first_quarter = refl

begin_of_the_second_quarter : choice_answer (script (64 ∷ [])) (0 ∷ 1 ∷ 0 ∷ 3 ∷ []) 0 ≡ Ok 3
unfolding named words_from left_after taken
begin_of_the_second_quarter = refl

one_word_drawn : choice_state (script (64 ∷ [])) (0 ∷ 1 ∷ 0 ∷ 3 ∷ []) 0 ≡ 1
unfolding named words_from left_after taken
one_word_drawn = refl

-- The word 0 is rejected for a sum of 3. The last of 128 words can still decide.
last_of_128 : choice_answer (script (replicate 127 0 ++ 255 ∷ [])) (1 ∷ 0 ∷ 2 ∷ []) 0 ≡ Ok 2
unfolding named words_from left_after taken
last_of_128 = refl

one_too_late : choice_answer (script (replicate 128 0 ++ 255 ∷ [])) (1 ∷ 0 ∷ 2 ∷ []) 0 ≡ Err Exhausted
unfolding named words_from left_after taken
one_too_late = refl

all_128_drawn : choice_state (script (replicate 128 0 ++ 255 ∷ [])) (1 ∷ 0 ∷ 2 ∷ []) 0 ≡ 128
unfolding named words_from left_after taken
all_128_drawn = refl

-- If the sum is an error, nothing is drawn.
nothing_drawn : choice_state (script []) (0 ∷ (2 ^ 64) ∷ []) 7 ≡ 7
nothing_drawn = refl

-- The weights 1, 0 and 2 and words of 8 bits: a number is drawn by 85 words, so the items are
-- chosen by 85, 0 and 170 words.
words_of_each : map (λ i. words_that 8 (λ word. passes (λ j. j == i) (item_named 8 (1 ∷ 0 ∷ 2 ∷ []) word))) (rising 3) ≡ 85 ∷ 0 ∷ 170 ∷ []
unfolding named words_that
words_of_each = refl
