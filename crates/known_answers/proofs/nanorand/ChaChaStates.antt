-- Known answers: states of ChaCha at a counter, their key, nonce and counter, the counter after jumps and
-- draws, and the first bytes of a stream.
use Rattle.std.specs.Prelude.{◌≡◌, ℕ, ◌+◌, ◌-◌, ◌^◌, List, [], ◌∷◌, refl, ◌++◌, codes, drop, replicate}
use Rattle.std.specs.List.{range_with_len}
use Rattle.nanorand.specs.generators.ChaCha.{constants, initial_state, state_at, key_of, nonce_of, counter, words}
use Rattle.nanorand.specs.generators.ChaCha.{next_state, chacha_block, chacha_after, with_counter}
use Rattle.std.proofs.Common.{ap}
use Rattle.nanorand_replay.specs.generators.Buffered.{buffer_of, buffered_taken, buffered_after, Buffered}
use Rattle.nanorand.specs.generators.ChaChaRounds.{block, quarter_round, on_columns, on_diagonals, rounds}
use Rattle.nanorand.specs.generators.ChaChaGroups.{chacha_group, next_group, stream_position, stream_requests, stream_start}

-- The ASCII text as four words.
the_constants : constants ≡ 0x61707865 ∷ 0x3320646e ∷ 0x79622d32 ∷ 0x6b206574 ∷ []
the_constants = refl

abbrev rising : ℕ → List ℕ
rising = state_at (range_with_len 0 32) (range_with_len 32 8)

from_zero : rising 0 ≡ initial_state (range_with_len 0 32) (range_with_len 32 8)
unfolding state_at initial_state
from_zero = refl

in_the_high_half : rising (2 ^ 33 + 5)
    ≡ 0x61707865 ∷ 0x3320646e ∷ 0x79622d32 ∷ 0x6b206574
    ∷ 0x03020100 ∷ 0x07060504 ∷ 0x0b0a0908 ∷ 0x0f0e0d0c
    ∷ 0x13121110 ∷ 0x17161514 ∷ 0x1b1a1918 ∷ 0x1f1e1d1c
    ∷ 5 ∷ 2 ∷ 0x23222120 ∷ 0x27262524 ∷ []
unfolding state_at initial_state
in_the_high_half = refl

the_key : key_of (rising 7) ≡ range_with_len 0 32
unfolding state_at initial_state key_of
the_key = refl

the_nonce : nonce_of (rising 7) ≡ range_with_len 32 8
unfolding state_at initial_state nonce_of
the_nonce = refl

the_greatest_counter : counter (rising (2 ^ 64 - 1)) ≡ 2 ^ 64 - 1
unfolding state_at initial_state
the_greatest_counter = refl

abbrev of_zeros : List ℕ
of_zeros = initial_state (replicate 32 0) (replicate 8 0)

abbrev counting_from : ℕ → ℕ → List ℕ
counting_from low high = words (codes "expand 32-byte k") ++ replicate 8 0 ++ low ∷ high ∷ 0 ∷ 0 ∷ []

first_state : of_zeros ≡ counting_from 0 0
unfolding initial_state
first_state = refl

-- A jump by 2^32 - 1 draws, and then one draw.
into_the_high_half : next_state (chacha_after (2 ^ 32 - 1) of_zeros) ≡ counting_from 0 1
unfolding initial_state
into_the_high_half = refl

counter_in_the_high_half : counter (next_state (chacha_after (2 ^ 32 - 1) of_zeros)) ≡ 4294967296
unfolding initial_state
counter_in_the_high_half = refl

-- A jump by 2^64 - 1 draws leads to the greatest counter, and one more draw to the first state.
at_the_greatest : chacha_after (2 ^ 64 - 1) of_zeros ≡ counting_from 0xffffffff 0xffffffff
unfolding initial_state
at_the_greatest = refl

round_to_the_first : next_state (chacha_after (2 ^ 64 - 1) of_zeros) ≡ of_zeros
unfolding initial_state
round_to_the_first = refl

counter_of_the_first : counter (next_state (chacha_after (2 ^ 64 - 1) of_zeros)) ≡ 0
unfolding initial_state
counter_of_the_first = refl

-- So the block after that of the greatest counter is the first block of the zero key and nonce.
second_is_the_first : chacha_block 20 (next_state (chacha_after (2 ^ 64 - 1) of_zeros)) ≡ chacha_block 20 of_zeros
second_is_the_first = ap (chacha_block 20) round_to_the_first

-- A buffer delivers it after the block of the greatest counter, and buffers nothing.
behind_the_greatest : drop 64 (buffered_taken (chacha_block 20) next_state 64
    (buffer_of [] (chacha_after (2 ^ 64 - 1) of_zeros)) 128) ≡ chacha_block 20 of_zeros
unfolding buffered_taken block initial_state
behind_the_greatest = refl

nothing_kept : buffered_after (chacha_block 20) next_state 64 (buffer_of [] (chacha_after (2 ^ 64 - 1) of_zeros)) 128 ≡ buffer_of [] (chacha_after 1 of_zeros)
unfolding buffered_after block initial_state
nothing_kept = refl

-- The stream of the zero key and nonce.
abbrev zeros : Buffered (List ℕ)
zeros = buffer_of [] (initial_state (replicate 32 0) (replicate 8 0))

first_bytes : (stream_requests 20).bytes zeros 8
    ≡ 0x76 ∷ 0xb8 ∷ 0xe0 ∷ 0xad ∷ 0xa0 ∷ 0xf1 ∷ 0x3d ∷ 0x90 ∷ []
unfolding quarter_round on_columns on_diagonals rounds block initial_state chacha_group next_group buffered_taken
first_bytes = refl

-- After a request of five bytes, a group of eight blocks was drawn, and its first five bytes were
-- delivered.
group_drawn : ((stream_requests 20).after zeros 5).inner ≡ with_counter (zeros.inner) 8
unfolding quarter_round on_columns on_diagonals rounds block initial_state chacha_group next_group buffered_after
group_drawn = refl

fifth : stream_position ((stream_requests 20).after zeros 5) ≡ 5
unfolding quarter_round on_columns on_diagonals rounds block initial_state chacha_group next_group buffered_after
fifth = refl

-- With one buffered byte and the counter 0, the position is that of the last byte of the stream.
last : stream_position (buffer_of (7 ∷ []) (with_counter zeros.inner 0)) ≡ 2 ^ 70 - 1
unfolding initial_state
last = refl

start : stream_start (buffer_of (7 ∷ []) (with_counter zeros.inner 3)) ≡ zeros
unfolding initial_state
start = refl
