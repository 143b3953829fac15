-- Known answers: reservoirs of small counts, and reservoirs from words.
use Rattle.std.proofs.Common.{◌≡◌, ℕ, ◌||◌, nat_lt, nat_eq, true, [], ◌∷◌, map, Ok, Err, refl, ◌∙◌, arith}
use Rattle.std.specs.List.{list_all, range_with_len}
use Rattle.nanorand_core.specs.generators.Blocks.{Requests, taken}
use Rattle.nanorand_core.specs.values.Runs.{named}
use Rattle.nanorand_core.specs.values.Draws.{words_from, value_drawn, left_by, left_after}
use Rattle.nanorand_core.specs.samples.Samples.{factorial, holds, number_up_to}
use Rattle.nanorand_core.specs.samples.Reservoir.{items_at, reservoir, reservoirs_that}
use Rattle.nanorand_core.specs.declared.values.range.RangeError.TheVariants.{Exhausted}
use Rattle.known_answers.proofs.nanorand_core.SampledNumbers.{number_from}
use Rattle.known_answers.proofs.nanorand_core.SmallGenerators.{script}

items_of_numbers : items_at {A = ℕ} (10 ∷ 20 ∷ 30 ∷ []) (2 ∷ 0 ∷ []) ≡ 30 ∷ 10 ∷ []
items_of_numbers = refl

-- Two of four items: there are 12 sequences of draws, of which 6 draw each item and 2 draw each
-- pair. No sequence draws a pair with an item that is not among the four.
pairs_of_four : reservoirs_that 2 4 (λ chosen. true) ≡ 12
pairs_of_four = refl

pairs_with : map (λ item. reservoirs_that 2 4 (holds item)) (range_with_len 0 5) ≡ 6 ∷ 6 ∷ 6 ∷ 6 ∷ 0 ∷ []
pairs_with = refl

pair_of : ℕ → ℕ → ℕ
pair_of a b = reservoirs_that 2 4 (list_all (λ item. nat_eq item a || nat_eq item b))

each_pair : map (pair_of 0) (1 ∷ 2 ∷ 3 ∷ 4 ∷ []) ≡ 2 ∷ 2 ∷ 2 ∷ 0 ∷ []
unfolding pair_of
each_pair = refl

-- Three of five items, all of three items, and none of three items.
threes_of_five : reservoirs_that 3 5 (list_all (λ item. nat_lt item 3)) ≡ factorial 2
threes_of_five = refl

all_of_three : reservoirs_that 3 3 (λ chosen. true) ≡ 1
all_of_three = refl

none_of_three : reservoirs_that 0 3 (λ chosen. true) ≡ 6
none_of_three = refl

-- With fewer items than slots, nothing is drawn.
two_of_two : (requests : Requests ℕ) (g : ℕ) → reservoir requests 3 2 g ≡ record { answer = Ok 2; chosen = 0 ∷ 1 ∷ []; taken = 2; state = g }
two_of_two requests g = refl

-- Two of four items. The words draw 1 from 0, 1, 2 and then 0 from 0, 1, 2, 3.
both_replaced : reservoir (script (128 ∷ 1 ∷ [])) 2 4 0 ≡ record { answer = Ok 2; chosen = 3 ∷ 2 ∷ []; taken = 4; state = 2 }
unfolding named words_from value_drawn left_by left_after taken
both_replaced =
    let first : number_up_to (script (128 ∷ 1 ∷ [])) 2 0 ≡ (Ok 1, 1) = number_from (script (128 ∷ 1 ∷ [])) 2 0 (omega arith) ∙ refl in
    let second : number_up_to (script (128 ∷ 1 ∷ [])) 3 1 ≡ (Ok 0, 2) = number_from (script (128 ∷ 1 ∷ [])) 3 1 (omega arith) ∙ refl in
    rw (first, second) refl

-- Two of six items. Zeros draw 0 below 4. Below 5 they are rejected, so that the draw fails after
-- 128 words. The sixth item is not taken.
fifth_refused : reservoir (script (128 ∷ [])) 2 6 0 ≡ record { answer = Err Exhausted; chosen = 3 ∷ 2 ∷ []; taken = 5; state = 130 }
unfolding named words_from value_drawn left_by left_after taken
fifth_refused =
    let first : number_up_to (script (128 ∷ [])) 2 0 ≡ (Ok 1, 1) = number_from (script (128 ∷ [])) 2 0 (omega arith) ∙ refl in
    let second : number_up_to (script (128 ∷ [])) 3 1 ≡ (Ok 0, 2) = number_from (script (128 ∷ [])) 3 1 (omega arith) ∙ refl in
    let third : number_up_to (script (128 ∷ [])) 4 2 ≡ (Err Exhausted, 130) = number_from (script (128 ∷ [])) 4 2 (omega arith) ∙ refl in
    rw (first, second, third) refl
