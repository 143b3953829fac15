-- Known answers: the partners of shuffles of three items, with several generators and both kinds of
-- shuffle, and of shuffles of four items.
use Rattle.std.proofs.Common.{◌≡◌, ℕ, ◌+◌, [], ◌∷◌, Ok, Err, refl, ◌∙◌, arith}
use Rattle.std.specs.Prelude.{codes, replicate}
use Rattle.nanorand_core.specs.generators.Blocks.{taken}
use Rattle.nanorand_core.specs.values.Runs.{named}
use Rattle.nanorand_core.specs.values.Draws.{words_from, value_drawn, left_by, left_after}
use Rattle.nanorand_core.specs.shuffles.Shuffles.{arranged, from_all, from_itself, partner_drawn, choices_from, shuffle_choices}
use Rattle.nanorand_core.specs.declared.values.range.RangeError.TheVariants.{Exhausted}
use Rattle.nanorand_core.proofs.lemmas.shuffles.PartnerLemmas.{Makes, partner_between, none_to_shuffle, three_partners, first_refused, second_refused}
use Rattle.known_answers.proofs.nanorand_core.SmallGenerators.{steps, script}

-- A shuffle of no items draws nothing.
none_shuffled : Makes steps from_itself 0 7 (Ok tt) [] 7
none_shuffled = none_to_shuffle steps from_itself 7

none_shuffled_in_full : Makes steps from_all 0 7 (Ok tt) [] 7
none_shuffled_in_full = none_to_shuffle steps from_all 7

-- Words of rising bytes draw the first partner of each range.
pub rising_bytes_keep : Makes steps from_itself 3 0 (Ok tt) (0 ∷ 1 ∷ 2 ∷ []) 3
unfolding named words_from value_drawn left_by left_after taken
rising_bytes_keep =
    three_partners steps from_itself 0 1 2 3 0 1 2
    (partner_between steps from_itself 3 0 0 (omega arith) (omega arith) ∙ refl)
    (partner_between steps from_itself 3 1 1 (omega arith) (omega arith) ∙ refl)
    (partner_between steps from_itself 3 2 2 (omega arith) (omega arith) ∙ refl)

rising_bytes_turn : Makes steps from_all 3 0 (Ok tt) (0 ∷ 0 ∷ 0 ∷ []) 3
unfolding named words_from value_drawn left_by left_after taken
rising_bytes_turn =
    three_partners steps from_all 0 1 2 3 0 0 0
    (partner_between steps from_all 3 0 0 (omega arith) (omega arith) ∙ refl)
    (partner_between steps from_all 3 1 1 (omega arith) (omega arith) ∙ refl)
    (partner_between steps from_all 3 2 2 (omega arith) (omega arith) ∙ refl)

kept : arranged (0 ∷ 1 ∷ 2 ∷ []) (codes "abc") ≡ codes "abc"
kept = refl

turned : arranged (0 ∷ 0 ∷ 0 ∷ []) (codes "abc") ≡ codes "cab"
turned = refl

-- Zeros are rejected at index 0, so that the shuffle fails after 128 words, and nothing moves.
zeros_keep : Makes (script []) from_itself 3 0 (Err Exhausted) [] 128
unfolding named words_from value_drawn left_by left_after taken
zeros_keep =
    first_refused (script []) from_itself 0 128
    (partner_between (script []) from_itself 3 0 0 (omega arith) (omega arith) ∙ refl)

zeros_keep_in_full : Makes (script []) from_all 3 0 (Err Exhausted) [] 128
unfolding named words_from value_drawn left_by left_after taken
zeros_keep_in_full =
    first_refused (script []) from_all 0 128
    (partner_between (script []) from_all 3 0 0 (omega arith) (omega arith) ∙ refl)

nothing_moved : arranged [] (codes "abc") ≡ codes "abc"
nothing_moved = refl

-- A word of ones and then zeros. With partners from the index itself on, the shuffle succeeds. With
-- partners from all indices, it fails at index 1.
ones_reverse : Makes (script (255 ∷ [])) from_itself 3 0 (Ok tt) (2 ∷ 1 ∷ 2 ∷ []) 3
unfolding named words_from value_drawn left_by left_after taken
ones_reverse =
    three_partners (script (255 ∷ [])) from_itself 0 1 2 3 2 1 2
    (partner_between (script (255 ∷ [])) from_itself 3 0 0 (omega arith) (omega arith) ∙ refl)
    (partner_between (script (255 ∷ [])) from_itself 3 1 1 (omega arith) (omega arith) ∙ refl)
    (partner_between (script (255 ∷ [])) from_itself 3 2 2 (omega arith) (omega arith) ∙ refl)

ones_refused : Makes (script (255 ∷ [])) from_all 3 0 (Err Exhausted) (2 ∷ []) 129
unfolding named words_from value_drawn left_by left_after taken
ones_refused =
    second_refused (script (255 ∷ [])) from_all 0 1 129 2
    (partner_between (script (255 ∷ [])) from_all 3 0 0 (omega arith) (omega arith) ∙ refl)
    (partner_between (script (255 ∷ [])) from_all 3 1 1 (omega arith) (omega arith) ∙ refl)

ends_swapped : arranged (2 ∷ 1 ∷ 2 ∷ []) (codes "abc") ≡ codes "cba"
ends_swapped = refl

ends_swapped_at_once : arranged (2 ∷ []) (codes "abc") ≡ codes "cba"
ends_swapped_at_once = refl

-- Four items and words of ones: each partner from all indices is the last index.
abbrev last_of_four : ℕ → ℕ → Type 0
last_of_four i g = partner_drawn (script (replicate 4 255)) from_all 4 i g ≡ (Ok 3, g + 1)

four_by_ones : last_of_four 0 0 × last_of_four 1 1 × last_of_four 2 2 × last_of_four 3 3
unfolding named words_from value_drawn left_by left_after taken
four_by_ones =
    let between = partner_between (script (replicate 4 255)) from_all 4 in (
      between 0 0 (omega arith) (omega arith) ∙ refl,
      between 1 1 (omega arith) (omega arith) ∙ refl,
      between 2 2 (omega arith) (omega arith) ∙ refl,
      between 3 3 (omega arith) (omega arith) ∙ refl,
    )

four_choices : shuffle_choices (script (replicate 4 255)) from_all 4 0 ≡ 3 ∷ 3 ∷ 3 ∷ 3 ∷ []
unfolding choices_from
four_choices = rw (four_by_ones.0, four_by_ones.1, four_by_ones.2, four_by_ones.3) refl

last_goes_first : arranged (3 ∷ 3 ∷ 3 ∷ 3 ∷ []) (codes "abcd") ≡ codes "dabc"
last_goes_first = refl
