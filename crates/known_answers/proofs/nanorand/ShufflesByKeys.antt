-- Known answers: shuffles of three items by ChaCha20, plain and buffered, and of one item by
-- WyRand.
use Rattle.std.proofs.Common.{◌≡◌, ℕ, ◌+◌, List, [], ◌∷◌, Ok, length, min, drop, refl, ap, ◌∙◌, arith}
use Rattle.std.specs.Prelude.{replicate}
use Rattle.std.specs.List.{range_with_len}
use Rattle.nanorand_core.specs.generators.Blocks.{taken, Requests}
use Rattle.nanorand_replay.specs.generators.Buffered.{Buffered, buffered, buffer_of, buffered_taken, buffered_after}
use Rattle.nanorand.specs.generators.ChaChaRounds.{quarter_round, on_columns, on_diagonals, rounds, block}
use Rattle.nanorand.specs.generators.ChaCha.{chacha_requests, chacha_block, chacha_after, next_state, initial_state}
use Rattle.nanorand.specs.generators.WyRand.{wyrand_requests, next_seed}
use Rattle.std.specs.declared.ops.Bound.TheVariants.{Included, Excluded}
use Rattle.nanorand_core.specs.values.Runs.{named}
use Rattle.nanorand_core.specs.values.Range.{range_within}
use Rattle.nanorand_core.specs.values.Draws.{words_from, value_drawn, left_by, left_after}
use Rattle.nanorand_core.specs.shuffles.Shuffles.{arranged, from_all, from_itself, partner_drawn, choices_from}
use Rattle.nanorand_core.specs.shuffles.Shuffles.{shuffle_choices, shuffle_answer, shuffle_state, state_after_places}
use Rattle.nanorand_core.specs.shuffles.Arrangements.{rising}
use Rattle.nanorand_replay.specs.replay.Replay.{replayed, shuffle_call_answer}
use Rattle.nanorand_replay.specs.declared.replay.Span.TheVariants as spans
use Rattle.nanorand_replay.specs.declared.replay.Call.TheVariants.{Range, Shuffle}
use Rattle.nanorand_replay.specs.declared.replay.Answer.TheVariants.{Empty, Shuffled}
use Rattle.nanorand_core.proofs.lemmas.shuffles.PartnerLemmas.{Makes, partner_between, three_partners}
use Rattle.known_answers.proofs.nanorand_replay.Replays.{goes_on, whole_shuffle}

abbrev plain_requests : Requests (List ℕ)
plain_requests = chacha_requests 20

-- The key 0, 1, .., 31 and the nonce 0, 1, .., 7: each partner takes a block.
abbrev in_order : ℕ → List ℕ
in_order n = chacha_after n (initial_state (range_with_len 0 32) (range_with_len 0 8))

ordered_key : Makes plain_requests from_itself 3 (in_order 0) (Ok tt) (1 ∷ 2 ∷ 2 ∷ []) (in_order 3)
unfolding quarter_round on_columns on_diagonals rounds block initial_state named words_from value_drawn left_by left_after taken
ordered_key =
    let between = partner_between plain_requests from_itself 3 in
    three_partners plain_requests from_itself (in_order 0) (in_order 1) (in_order 2) (in_order 3) 1 2 2
    (between 0 (in_order 0) (omega arith) (omega arith) ∙ refl)
    (between 1 (in_order 1) (omega arith) (omega arith) ∙ refl)
    (between 2 (in_order 2) (omega arith) (omega arith) ∙ refl)

ordered_key_in_full : Makes plain_requests from_all 3 (in_order 0) (Ok tt) (1 ∷ 1 ∷ 0 ∷ []) (in_order 3)
unfolding quarter_round on_columns on_diagonals rounds block initial_state named words_from value_drawn left_by left_after taken
ordered_key_in_full =
    let between = partner_between plain_requests from_all 3 in
    three_partners plain_requests from_all (in_order 0) (in_order 1) (in_order 2) (in_order 3) 1 1 0
    (between 0 (in_order 0) (omega arith) (omega arith) ∙ refl)
    (between 1 (in_order 1) (omega arith) (omega arith) ∙ refl)
    (between 2 (in_order 2) (omega arith) (omega arith) ∙ refl)

-- The zero key and nonce, buffered: all partners come from one block.
abbrev buffered_requests : Requests (Buffered (List ℕ))
buffered_requests = buffered (chacha_block 20) next_state 64

abbrev of_zeros : List ℕ
of_zeros = initial_state (replicate 32 0) (replicate 8 0)

abbrev zeros_from : ℕ → Buffered (List ℕ)
zeros_from n = buffer_of (drop n (chacha_block 20 of_zeros)) (next_state of_zeros)

zero_key : Makes buffered_requests from_itself 3 (buffer_of [] of_zeros) (Ok tt) (1 ∷ 1 ∷ 2 ∷ []) (zeros_from 24)
unfolding quarter_round on_columns on_diagonals rounds block initial_state named words_from value_drawn left_by left_after taken buffered_taken buffered_after
zero_key =
    let between = partner_between buffered_requests from_itself 3 in
    three_partners buffered_requests from_itself (buffer_of [] of_zeros) (zeros_from 8) (zeros_from 16) (zeros_from 24) 1 1 2
    (between 0 (buffer_of [] of_zeros) (omega arith) (omega arith) ∙ refl)
    (between 1 (zeros_from 8) (omega arith) (omega arith) ∙ refl)
    (between 2 (zeros_from 16) (omega arith) (omega arith) ∙ refl)

zero_key_in_full : Makes buffered_requests from_all 3 (buffer_of [] of_zeros) (Ok tt) (1 ∷ 0 ∷ 0 ∷ []) (zeros_from 24)
unfolding quarter_round on_columns on_diagonals rounds block initial_state named words_from value_drawn left_by left_after taken buffered_taken buffered_after
zero_key_in_full =
    let between = partner_between buffered_requests from_all 3 in
    three_partners buffered_requests from_all (buffer_of [] of_zeros) (zeros_from 8) (zeros_from 16) (zeros_from 24) 1 0 0
    (between 0 (buffer_of [] of_zeros) (omega arith) (omega arith) ∙ refl)
    (between 1 (zeros_from 8) (omega arith) (omega arith) ∙ refl)
    (between 2 (zeros_from 16) (omega arith) (omega arith) ∙ refl)

-- What these choices make from 0, 1, 2.
ordered_key_items : arranged (1 ∷ 2 ∷ 2 ∷ []) (rising 3) ≡ 1 ∷ 2 ∷ 0 ∷ []
ordered_key_items = refl

ordered_key_items_in_full : arranged (1 ∷ 1 ∷ 0 ∷ []) (rising 3) ≡ 2 ∷ 0 ∷ 1 ∷ []
ordered_key_items_in_full = refl

zero_key_items : arranged (1 ∷ 1 ∷ 2 ∷ []) (rising 3) ≡ 1 ∷ 0 ∷ 2 ∷ []
zero_key_items = refl

zero_key_items_in_full : arranged (1 ∷ 0 ∷ 0 ∷ []) (rising 3) ≡ 2 ∷ 1 ∷ 0 ∷ []
zero_key_items_in_full = refl

-- The two shuffles as calls.
replay_of_ordered_key : replayed plain_requests (in_order 0) (rising 3) (Shuffle ∷ [])
    ≡ record { answers = Shuffled ∷ []; items = 1 ∷ 2 ∷ 0 ∷ []; state = in_order 3 }
replay_of_ordered_key =
    ap (goes_on plain_requests [] []) (whole_shuffle plain_requests (in_order 0) (in_order 3) (1 ∷ 2 ∷ 2 ∷ []) 0 1 2 ordered_key)

replay_of_zero_key : replayed buffered_requests (buffer_of [] of_zeros) (rising 3) (Shuffle ∷ [])
    ≡ record { answers = Shuffled ∷ []; items = 1 ∷ 0 ∷ 2 ∷ []; state = zeros_from 24 }
replay_of_zero_key =
    ap (goes_on buffered_requests [] []) (whole_shuffle buffered_requests (buffer_of [] of_zeros) (zeros_from 24) (1 ∷ 1 ∷ 2 ∷ []) 0 1 2 zero_key)

-- One item stays where it is, and one word is drawn.
abbrev seed_of_zero : ℕ
seed_of_zero = 0x5f89e29b87429bd1

one_partner : partner_drawn wyrand_requests from_itself 1 0 seed_of_zero ≡ (Ok 0, next_seed seed_of_zero)
unfolding named words_from value_drawn left_by left_after taken
one_partner = partner_between wyrand_requests from_itself 1 0 seed_of_zero (omega arith) (omega arith) ∙ refl

one_choice : shuffle_choices wyrand_requests from_itself 1 seed_of_zero ≡ 0 ∷ []
unfolding choices_from
one_choice = rw one_partner refl

one_answered : shuffle_answer wyrand_requests from_itself 1 seed_of_zero ≡ Ok tt
one_answered = rw one_choice refl

one_word_drawn : shuffle_state wyrand_requests from_itself 1 seed_of_zero ≡ next_seed seed_of_zero
unfolding state_after_places
one_word_drawn =
    ap (λ choices. state_after_places wyrand_requests from_itself 1 0 (min 1 (length choices + 1)) seed_of_zero) one_choice
    ∙ ap (λ drawn. drawn.1) one_partner

-- An empty range, and that shuffle.
empty_and_shuffle : replayed wyrand_requests seed_of_zero (0 ∷ []) (Range (spans.U8 (Included 5) (Excluded 5)) ∷ Shuffle ∷ [])
    ≡ record { answers = Empty ∷ Shuffled ∷ []; items = 0 ∷ []; state = next_seed seed_of_zero }
unfolding range_within value_drawn left_by
empty_and_shuffle = λ i. record {
  answers = Empty ∷ shuffle_call_answer (one_answered i) ∷ [];
  items = arranged (one_choice i) (0 ∷ []);
  state = one_word_drawn i;
}
