-- Known answers: the valid lists of three choices, what choices make from three items, the choices
-- that three words draw, and the first two steps of a shuffle, including one that fails at the
-- second step.
use Rattle.std.specs.Prelude.{◌≡◌, ℕ, zero, suc, ◌<◌, ◌≤◌, [], ◌∷◌, refl, codes}
use Rattle.std.proofs.Common.{arith, Ok, ap, ◌∙◌, ◌+◌, length, min, Err}
use Rattle.std.proofs.lemmas.List.Sorted.{IsPermutation-refl, sum_by-IsPermutation}
use Rattle.nanorand_core.specs.shuffles.Shuffles.{arranged, from_all, from_itself, shuffle_choices, partner_drawn}
use Rattle.nanorand_core.specs.shuffles.Shuffles.{choices_from, state_after_places, partial_choices, partial_answer}
use Rattle.nanorand_core.specs.shuffles.Shuffles.{partial_state, partly_shuffled}
use Rattle.nanorand_core.specs.shuffles.Arrangements.{IsValid, IsArrangement, rising, completed}
use Rattle.nanorand_core.specs.generators.Blocks.{taken, Requests}
use Rattle.nanorand_core.specs.values.Runs.{named}
use Rattle.nanorand_core.specs.values.Draws.{words_from, value_drawn, left_by, left_after}
use Rattle.nanorand_core.proofs.lemmas.shuffles.PartnerLemmas.{Makes, partner_between, three_partners}
use Rattle.known_answers.proofs.nanorand_core.SmallGenerators.{script}
use Rattle.nanorand_core.specs.declared.values.range.RangeError.TheVariants.{Exhausted}

-- A list of three choices is valid if the first is below 3, the second is 1 or 2, and the last is
-- 2.
valid_three : (a b : ℕ) → a < 3 → 1 ≤ b → b < 3 → IsValid (a ∷ b ∷ 2 ∷ [])
valid_three a b a_below b_from b_below zero within = (omega arith, omega (arith, a_below))
valid_three a b a_below b_from b_below (suc zero) within = (b_from, omega (arith, b_below))
valid_three a b a_below b_from b_below (suc (suc zero)) within = (omega arith, omega arith)
valid_three a b a_below b_from b_below (suc (suc (suc i))) within = absurd (omega (arith, within))

-- The choices 2, 2, 2 are valid and make the order 2, 0, 1.
choices_of_last_first : IsValid (2 ∷ 2 ∷ 2 ∷ []) × (arranged (2 ∷ 2 ∷ 2 ∷ []) (rising 3) ≡ 2 ∷ 0 ∷ 1 ∷ [])
choices_of_last_first = (valid_three 2 2 (omega arith) (omega arith) (omega arith), refl)

-- A list that holds a number twice, or a number that is not an index, is not a permutation.
number_twice : IsArrangement (0 ∷ 0 ∷ 1 ∷ []) → ⊥
number_twice order = let same = sum_by-IsPermutation (λ (n : ℕ). n) (rising 3) (0 ∷ 0 ∷ 1 ∷ []) order in omega (arith, same)

number_too_great : IsArrangement (3 ∷ 0 ∷ 1 ∷ []) → ⊥
number_too_great order = let same = sum_by-IsPermutation (λ (n : ℕ). n) (rising 3) (3 ∷ 0 ∷ 1 ∷ []) order in omega (arith, same)

nothing_in_order : IsArrangement []
nothing_in_order = IsPermutation-refl []

nothing_chosen : IsValid []
nothing_chosen i within = absurd (omega (arith, within))

-- The six valid lists of three choices, and the permutations that they make.
nothing_moved : arranged (0 ∷ 1 ∷ 2 ∷ []) (rising 3) ≡ 0 ∷ 1 ∷ 2 ∷ []
nothing_moved = refl

last_two_swapped : arranged (0 ∷ 2 ∷ 2 ∷ []) (rising 3) ≡ 0 ∷ 2 ∷ 1 ∷ []
last_two_swapped = refl

first_two_swapped : arranged (1 ∷ 1 ∷ 2 ∷ []) (rising 3) ≡ 1 ∷ 0 ∷ 2 ∷ []
first_two_swapped = refl

first_goes_last : arranged (1 ∷ 2 ∷ 2 ∷ []) (rising 3) ≡ 1 ∷ 2 ∷ 0 ∷ []
first_goes_last = refl

reversed : arranged (2 ∷ 1 ∷ 2 ∷ []) (rising 3) ≡ 2 ∷ 1 ∷ 0 ∷ []
reversed = refl

last_goes_first : arranged (2 ∷ 2 ∷ 2 ∷ []) (rising 3) ≡ 2 ∷ 0 ∷ 1 ∷ []
last_goes_first = refl

-- A generator of three blocks: eight bytes 128, eight bytes 1 and eight bytes 255.
abbrev three_blocks : Requests ℕ
three_blocks = script (128 ∷ 1 ∷ 255 ∷ [])

-- Partners from the index itself on: index 1 from 0..3, 1 from 1..3 and 2 from 2..3.
three_drawn : Makes three_blocks from_itself 3 0 (Ok tt) (1 ∷ 1 ∷ 2 ∷ []) 3
unfolding named words_from value_drawn left_by left_after taken
three_drawn =
    let between = partner_between three_blocks from_itself 3 in
    three_partners three_blocks from_itself 0 1 2 3 1 1 2
    (between 0 0 (omega arith) (omega arith) ∙ refl)
    (between 1 1 (omega arith) (omega arith) ∙ refl)
    (between 2 2 (omega arith) (omega arith) ∙ refl)

shuffled : arranged (shuffle_choices three_blocks from_itself 3 0) (codes "abc") ≡ codes "bac"
shuffled = ap (λ choices. arranged choices (codes "abc")) three_drawn.chosen

-- Partners from all indices: 1, 0 and 2 from 0..3.
three_drawn_from_all : Makes three_blocks from_all 3 0 (Ok tt) (1 ∷ 0 ∷ 2 ∷ []) 3
unfolding named words_from value_drawn left_by left_after taken
three_drawn_from_all =
    let between = partner_between three_blocks from_all 3 in
    three_partners three_blocks from_all 0 1 2 3 1 0 2
    (between 0 0 (omega arith) (omega arith) ∙ refl)
    (between 1 1 (omega arith) (omega arith) ∙ refl)
    (between 2 2 (omega arith) (omega arith) ∙ refl)

shuffled_in_full : arranged (shuffle_choices three_blocks from_all 3 0) (codes "abc") ≡ codes "abc"
shuffled_in_full = ap (λ choices. arranged choices (codes "abc")) three_drawn_from_all.chosen

-- A shuffle of no steps draws nothing and moves nothing.
no_steps : partly_shuffled (script []) from_itself 0 7 (codes "abc") ≡ record { answer = Ok tt; choices = []; items = codes "abc"; state = 7 }
unfolding choices_from state_after_places
no_steps = refl

-- Three blocks: eight bytes 255, eight bytes 0 and eight bytes 255.
abbrev other_blocks : Requests ℕ
other_blocks = script (255 ∷ 0 ∷ 255 ∷ [])

-- Two steps with three items: index 2 from 0..3, and 1 from 1..3.
first_partner : partner_drawn other_blocks from_itself 3 0 0 ≡ (Ok 2, 1)
unfolding named words_from value_drawn left_by left_after taken
first_partner = partner_between other_blocks from_itself 3 0 0 (omega arith) (omega arith) ∙ refl

second_partner : partner_drawn other_blocks from_itself 3 1 1 ≡ (Ok 1, 2)
unfolding named words_from value_drawn left_by left_after taken
second_partner = partner_between other_blocks from_itself 3 1 1 (omega arith) (omega arith) ∙ refl

two_choices : partial_choices other_blocks from_itself 3 2 0 ≡ 2 ∷ 1 ∷ []
unfolding choices_from
two_choices = rw (first_partner, second_partner) refl

two_answered : partial_answer other_blocks from_itself 3 2 0 ≡ Ok tt
two_answered = rw two_choices refl

two_words_drawn : partial_state other_blocks from_itself 3 2 0 ≡ 2
unfolding state_after_places
two_words_drawn =
    ap (λ choices. state_after_places other_blocks from_itself 3 0 (min 2 (length choices + 1)) 0) two_choices
    ∙ ap (λ drawn. state_after_places other_blocks from_itself 3 1 1 drawn.1) first_partner
    ∙ ap (λ drawn. drawn.1) second_partner

ends_swapped : arranged (2 ∷ 1 ∷ []) (codes "abc") ≡ codes "cba"
ends_swapped = refl

whole_record : completed 3 (2 ∷ 1 ∷ []) ≡ 2 ∷ 1 ∷ 2 ∷ []
whole_record = refl

-- Four items, a word of ones and then zeros: the draw of the second partner fails after 128
-- rejected words.
first_of_four : partner_drawn (script (255 ∷ [])) from_itself 4 0 0 ≡ (Ok 3, 1)
unfolding named words_from value_drawn left_by left_after taken
first_of_four = partner_between (script (255 ∷ [])) from_itself 4 0 0 (omega arith) (omega arith) ∙ refl

second_refused : partner_drawn (script (255 ∷ [])) from_itself 4 1 1 ≡ (Err Exhausted, 129)
unfolding named words_from value_drawn left_by left_after taken
second_refused = partner_between (script (255 ∷ [])) from_itself 4 1 1 (omega arith) (omega arith) ∙ refl

one_choice : partial_choices (script (255 ∷ [])) from_itself 4 2 0 ≡ 3 ∷ []
unfolding choices_from
one_choice = rw (first_of_four, second_refused) refl

refused : partial_answer (script (255 ∷ [])) from_itself 4 2 0 ≡ Err Exhausted
refused = rw one_choice refl

all_words_drawn : partial_state (script (255 ∷ [])) from_itself 4 2 0 ≡ 129
unfolding state_after_places
all_words_drawn =
    ap (λ choices. state_after_places (script (255 ∷ [])) from_itself 4 0 (min 2 (length choices + 1)) 0) one_choice
    ∙ ap (λ drawn. state_after_places (script (255 ∷ [])) from_itself 4 1 1 drawn.1) first_of_four
    ∙ ap (λ drawn. drawn.1) second_refused
