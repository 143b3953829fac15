-- Known answers: whole texts with shuffles, whose choices are drawn from ranges of `u64`.
use Rattle.std.proofs.Common.{◌≡◌, ℕ, zero, suc, ◌+◌, ◌-◌, ◌^◌, ◌≤◌, List, [], ◌∷◌, ◌++◌, Ok, codes, filter, map}
use Rattle.std.proofs.Common.{nat_le, nat_lt, replicate, refl, ap, ◌∙◌, arith}
use Rattle.std.specs.Prelude.{◌&&◌, drop}
use Rattle.std.specs.Fmt.{digits}
use Rattle.std.specs.List.{range_with_len}
use Rattle.std.proofs.lemmas.Bool.{le-ltb, and_right}
use Rattle.std.specs.declared.ops.Bound.TheVariants.{Included, Excluded}
use Rattle.nanorand_core.specs.generators.Blocks.{taken, plain_after, Requests}
use Rattle.nanorand_replay.specs.generators.Buffered.{buffered, Buffered, buffer_of, buffered_taken, buffered_after}
use Rattle.nanorand.specs.generators.ChaChaRounds.{quarter_round, on_columns, on_diagonals, rounds, block}
use Rattle.nanorand.specs.generators.ChaCha.{chacha_requests, chacha_block, next_state, initial_state, seeded_state}
use Rattle.nanorand.specs.generators.WyRand.{next_seed, wyrand_block}
use Rattle.nanorand_core.specs.values.Runs.{named}
use Rattle.nanorand_core.specs.values.Range.{unsigned_number, unsigned_range, range_within}
use Rattle.nanorand_core.specs.values.Draws.{range_outcome, words_from, value_drawn, left_by, left_after}
use Rattle.nanorand_core.specs.shuffles.Shuffles.{arranged, from_itself, partner_drawn, choices_from, shuffle_choices, shuffle_answer}
use Rattle.nanorand_replay.specs.replay.Replay.{shuffle_call_answer}
use Rattle.nanorand_replay.specs.declared.replay.Answer.TheVariants.{Empty}
use Rattle.draw_core.specs.Text.{text_of, text_asked}
use Rattle.known_answers.proofs.draw_core.CommandLines.{empty_and_shuffle, shuffle_in_order, shuffle_of_zeros, in_order}

-- A range has no numbers beyond its high bound, so it is computed without listing all 2^64 numbers.
none_past : (low end a n : ℕ) → end ≤ a → filter (λ x. nat_le low x && nat_lt x end) (map unsigned_number (range_with_len a n)) ≡ []
none_past low end a zero past = refl
none_past low end a (suc n) past = rw (and_right (nat_le low a) (nat_lt a end) (le-ltb a end past)) (none_past low end (a + 1) n (omega arith))

just_0 : (bits more : ℕ) → 2 ^ bits ≡ suc more → unsigned_range bits (Included 0) (Excluded 1) ≡ 0 ∷ []
unfolding range_within
just_0 bits more size = rw size (ap (λ rest. 0 ∷ rest) (none_past 0 1 1 more (omega arith)))

from_0 : (bits more : ℕ) → 2 ^ bits ≡ suc (suc (suc more)) → unsigned_range bits (Included 0) (Excluded 3) ≡ 0 ∷ 1 ∷ 2 ∷ []
unfolding range_within
from_0 bits more size = rw size (ap (λ rest. 0 ∷ 1 ∷ 2 ∷ rest) (none_past 0 3 3 more (omega arith)))

from_1 : (bits more : ℕ) → 2 ^ bits ≡ suc (suc (suc more)) → unsigned_range bits (Included 1) (Excluded 3) ≡ 1 ∷ 2 ∷ []
unfolding range_within
from_1 bits more size = rw size (ap (λ rest. 1 ∷ 2 ∷ rest) (none_past 1 3 3 more (omega arith)))

from_2 : (bits more : ℕ) → 2 ^ bits ≡ suc (suc (suc more)) → unsigned_range bits (Included 2) (Excluded 3) ≡ 2 ∷ []
unfolding range_within
from_2 bits more size = rw size (ap (λ rest. 2 ∷ rest) (none_past 2 3 3 more (omega arith)))

-- One item, shuffled by wyrand.
one_partner : partner_drawn (record { bytes = taken wyrand_block next_seed; after = plain_after next_seed 8 })
    from_itself 1 0 0x5f89e29b87429bd1 ≡ (Ok 0, next_seed 0x5f89e29b87429bd1)
unfolding partner_drawn named words_from value_drawn left_by left_after taken
one_partner =
    ap (λ numbers. range_outcome (record { bytes = taken wyrand_block next_seed; after = plain_after next_seed 8 }) 64
    numbers 0x5f89e29b87429bd1) (just_0 64 (2 ^ 64 - 1) refl) ∙ refl

one_choice : shuffle_choices (record { bytes = taken wyrand_block next_seed; after = plain_after next_seed 8 }) from_itself 1 0x5f89e29b87429bd1 ≡ 0 ∷ []
unfolding choices_from
one_choice = rw one_partner refl

one_answer : shuffle_answer (record { bytes = taken wyrand_block next_seed; after = plain_after next_seed 8 }) from_itself 1 0x5f89e29b87429bd1 ≡ Ok tt
one_answer = rw one_choice refl

text_of_empty_and_shuffle : text_asked empty_and_shuffle ≡ codes "empty" ++ 10 ∷ codes "shuffled" ++ 10 ∷ codes "items: 0" ++ 10 ∷ []
unfolding digits range_within value_drawn left_by
text_of_empty_and_shuffle =
    (λ i. text_of (record { answers = Empty ∷ shuffle_call_answer (one_answer i) ∷ []; items = arranged (one_choice i) (0 ∷ []) })) ∙ refl

-- Three items, shuffled by three choices.
module _ {G : Type 0} (requests : Requests G) (g0 g1 g2 g3 : G) (a b c : ℕ)
    (x : range_outcome requests 64 (0 ∷ 1 ∷ 2 ∷ []) g0 ≡ (Ok a, g1))
    (y : range_outcome requests 64 (1 ∷ 2 ∷ []) g1 ≡ (Ok b, g2))
    (z : range_outcome requests 64 (2 ∷ []) g2 ≡ (Ok c, g3)) where
  first : partner_drawn requests from_itself 3 0 g0 ≡ (Ok a, g1)
  unfolding partner_drawn
  first = ap (λ numbers. range_outcome requests 64 numbers g0) (from_0 64 (2 ^ 64 - 3) refl) ∙ x

  second : partner_drawn requests from_itself 3 1 g1 ≡ (Ok b, g2)
  unfolding partner_drawn
  second = ap (λ numbers. range_outcome requests 64 numbers g1) (from_1 64 (2 ^ 64 - 3) refl) ∙ y

  third : partner_drawn requests from_itself 3 2 g2 ≡ (Ok c, g3)
  unfolding partner_drawn
  third = ap (λ numbers. range_outcome requests 64 numbers g2) (from_2 64 (2 ^ 64 - 3) refl) ∙ z

  three_choices : shuffle_choices requests from_itself 3 g0 ≡ a ∷ b ∷ c ∷ []
  unfolding choices_from
  three_choices = rw (first, second, third) refl

  three_answer : shuffle_answer requests from_itself 3 g0 ≡ Ok tt
  three_answer = rw three_choices refl

-- The key 00 01 .. 1f and the nonce 00 01 .. 07, plain: each choice takes a block.
abbrev ordered : List ℕ
ordered = seeded_state in_order

ordered_choices : (shuffle_choices (chacha_requests 20) from_itself 3 ordered ≡ 1 ∷ 2 ∷ 2 ∷ [])
    × (shuffle_answer (chacha_requests 20) from_itself 3 ordered ≡ Ok tt)
unfolding quarter_round on_columns on_diagonals rounds block initial_state named words_from value_drawn left_by left_after taken
ordered_choices =
    let g1 = next_state ordered in let g2 = next_state g1 in let g3 = next_state g2 in (
      three_choices (chacha_requests 20) ordered g1 g2 g3 1 2 2 refl refl refl,
      three_answer (chacha_requests 20) ordered g1 g2 g3 1 2 2 refl refl refl,
    )

text_of_shuffle_in_order : text_asked shuffle_in_order ≡ codes "shuffled" ++ 10 ∷ codes "items: 1 2 0" ++ 10 ∷ []
unfolding digits
text_of_shuffle_in_order =
    (λ i. text_of (record { answers = shuffle_call_answer (ordered_choices.1 i) ∷ []; items = arranged (ordered_choices.0 i) (0 ∷ 1 ∷ 2 ∷ []) })) ∙ refl

-- The zero key and nonce, buffered: all three choices come from one block.
abbrev buffered_requests : Requests (Buffered (List ℕ))
buffered_requests = buffered (chacha_block 20) next_state 64

abbrev of_zeros : List ℕ
of_zeros = seeded_state (replicate 40 0)

abbrev zeros_from : ℕ → Buffered (List ℕ)
zeros_from n = buffer_of (drop n (chacha_block 20 of_zeros)) (next_state of_zeros)

choices_of_zeros : (shuffle_choices buffered_requests from_itself 3 (buffer_of [] of_zeros) ≡ 1 ∷ 1 ∷ 2 ∷ [])
    × (shuffle_answer buffered_requests from_itself 3 (buffer_of [] of_zeros) ≡ Ok tt)
unfolding quarter_round on_columns on_diagonals rounds block initial_state named words_from value_drawn left_by left_after taken buffered_taken buffered_after
choices_of_zeros = (
  three_choices buffered_requests (buffer_of [] of_zeros) (zeros_from 8) (zeros_from 16) (zeros_from 24) 1 1 2 refl refl refl,
  three_answer buffered_requests (buffer_of [] of_zeros) (zeros_from 8) (zeros_from 16) (zeros_from 24) 1 1 2 refl refl refl,
)

text_of_shuffle_of_zeros : text_asked shuffle_of_zeros ≡ codes "shuffled" ++ 10 ∷ codes "items: 1 0 2" ++ 10 ∷ []
unfolding digits
text_of_shuffle_of_zeros =
    (λ i. text_of (record { answers = shuffle_call_answer (choices_of_zeros.1 i) ∷ []; items = arranged (choices_of_zeros.0 i) (0 ∷ 1 ∷ 2 ∷ []) })) ∙ refl
