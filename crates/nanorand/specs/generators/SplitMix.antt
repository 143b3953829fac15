-- SplitMix64, which makes a seed from one number, after Guy Steele, Doug Lea and Christine Flood,
-- "Fast Splittable Pseudorandom Number Generators" (2014), with the constants of Sebastiano Vigna's
-- splitmix64.c. Its state is a number below 2^64, to which each draw adds a constant. The word is
-- the new state, mixed by shifts and products.
use Rattle.std.specs.Prelude.{ℕ, ◌+◌, ◌*◌, ◌/◌, ◌%◌, ◌^◌, List, bit_xor}
use Rattle.std.specs.Int.{w64, to_le_bytes}
use Rattle.nanorand_core.specs.generators.Blocks.{taken}

-- The odd number that a draw adds to the state.
abbrev pub split_mix_increment : ℕ
split_mix_increment = 0x9e3779b97f4a7c15

-- The state after one draw.
abbrev pub split_mix_next : ℕ → ℕ
split_mix_next n = (n + split_mix_increment) % 2 ^ 64

-- The xor of x and x shifted right.
abbrev pub xor_shifted_by : ℕ → ℕ → ℕ
xor_shifted_by shift x = bit_xor x (x / 2 ^ shift)

-- The word that belongs to a new state.
abbrev pub mixed : ℕ → ℕ
mixed n =
    let first = (xor_shifted_by 30 n * 0xbf58476d1ce4e5b9) % 2 ^ 64 in
    let second = (xor_shifted_by 27 first * 0x94d049bb133111eb) % 2 ^ 64 in
    xor_shifted_by 31 second

-- The next block: the eight bytes of the word, in little-endian order.
abbrev pub split_mix_block : ℕ → List ℕ
split_mix_block n = to_le_bytes w64 (mixed (split_mix_next n))

-- The seed of `size` bytes made from a number below 2^64: the first bytes that SplitMix64 produces
-- from it.
abbrev pub seed_from : ℕ → ℕ → List ℕ
seed_from size n = taken split_mix_block split_mix_next n size
