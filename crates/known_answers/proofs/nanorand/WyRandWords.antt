-- Known answers: WyRand's words, jumps and buffered bytes, computed from the definitions alone.
use Rattle.std.specs.Prelude.{◌≡◌, ℕ, ◌-◌, ◌^◌, [], ◌∷◌, length, refl}
use Rattle.std.specs.Fn.{iterate}
use Rattle.nanorand_replay.specs.generators.Buffered.{buffer_of, buffered_taken, buffered_after}
use Rattle.nanorand_core.specs.values.Values.{number_of}
use Rattle.nanorand.specs.generators.WyRand.{next_seed, word, wyrand_block, wyrand_after}

-- The word of the new seed 0, and of the new seed that equals the xored constant, is 0.
word_of_zero : wyrand_block 0x5f89e29b87429bd1 ≡ 0 ∷ 0 ∷ 0 ∷ 0 ∷ 0 ∷ 0 ∷ 0 ∷ 0 ∷ []
word_of_zero = refl

word_of_mask : wyrand_block 0x468d616d27f6c4ac ≡ 0 ∷ 0 ∷ 0 ∷ 0 ∷ 0 ∷ 0 ∷ 0 ∷ 0 ∷ []
word_of_mask = refl

word_of_one : wyrand_block 0x5f89e29b87429bd2 ≡ 0xda ∷ 0x28 ∷ 0xb4 ∷ 0xa0 ∷ 0xd1 ∷ 0x7e ∷ 0x03 ∷ 0xe7 ∷ []
word_of_one = refl

word_of_two : wyrand_block 0x5f89e29b87429bd3 ≡ 0xb3 ∷ 0x51 ∷ 0x68 ∷ 0x41 ∷ 0xa3 ∷ 0xfd ∷ 0x06 ∷ 0xce ∷ []
word_of_two = refl

word_of_half : wyrand_block 0xdf89e29b87429bd1 ≡ 0x6d ∷ 0x14 ∷ 0x5a ∷ 0xd0 ∷ 0x68 ∷ 0xbf ∷ 0x81 ∷ 0xb3 ∷ []
word_of_half = refl

half_word : word (2 ^ 63) ≡ 0xb381bf68d05a146d
half_word = refl

one_draw : wyrand_after 1 0 ≡ 0xa0761d6478bd642f
one_draw = refl

half_way_round : wyrand_after (2 ^ 63) 0 ≡ 0x8000000000000000
half_way_round = refl

one_draw_short_of_a_round : wyrand_after (2 ^ 64 - 1) 0 ≡ 0x5f89e29b87429bd1
one_draw_short_of_a_round = refl

-- A thousand draws, one by one and in closed form.
thousand_draws : iterate next_seed 1000 0 ≡ wyrand_after 1000 0
thousand_draws = refl

-- After five bytes from any seed, three bytes stay buffered.
three_kept : (seed : ℕ) → length (buffered_after wyrand_block next_seed 8 (buffer_of [] seed) 5).rest ≡ 3
unfolding buffered_after
three_kept seed = refl

-- A new seed takes effect after the bytes that are already buffered.
five_bytes : buffered_taken wyrand_block next_seed 8 (buffer_of [] 0x5f89e29b87429bd2) 5 ≡ 218 ∷ 40 ∷ 180 ∷ 160 ∷ 209 ∷ []
unfolding buffered_taken
five_bytes = refl

four_across_seeds : buffered_taken wyrand_block next_seed 8
    (buffer_of (buffered_after wyrand_block next_seed 8 (buffer_of [] 0x5f89e29b87429bd2) 5).rest
    (number_of (0xd3 ∷ 0x9b ∷ 0x42 ∷ 0x87 ∷ 0x9b ∷ 0xe2 ∷ 0x89 ∷ 0x5f ∷ []))) 4
    ≡ 126 ∷ 3 ∷ 231 ∷ 179 ∷ []
unfolding buffered_taken buffered_after
four_across_seeds = refl
