-- SplitMix64: its state is a seed below 2^64, to which each draw adds a constant. The word is the
-- new seed, mixed by shifts and by products modulo 2^64.
use Rattle.std.specs.Prelude.{ℕ, ◌+◌, ◌*◌, ◌/◌, ◌%◌, ◌^◌, List, bit_xor}
use Rattle.std.specs.Int.{w64, to_le_bytes}
use Rattle.nanorand_core.specs.generators.Blocks.{Requests, plain}

-- The odd number that a draw adds to the seed.
abbrev pub increment : ℕ
increment = 0x9e3779b97f4a7c15

-- The seed after one draw.
abbrev pub next_seed : ℕ → ℕ
next_seed seed = (seed + increment) % 2 ^ 64

-- The number of draws after which the seeds repeat.
abbrev pub split_mix_period : ℕ
split_mix_period = 2 ^ 64

-- x xor x shifted right.
abbrev pub folded_by : ℕ → ℕ → ℕ
folded_by shift x = bit_xor x (x / 2 ^ shift)

-- The word of a new seed.
abbrev pub mixed : ℕ → ℕ
mixed seed =
    let first = (folded_by 30 seed * 0xbf58476d1ce4e5b9) % 2 ^ 64 in
    let second = (folded_by 27 first * 0x94d049bb133111eb) % 2 ^ 64 in
    folded_by 31 second

-- The next block: the eight bytes of the word, in little-endian order.
abbrev pub split_mix_block : ℕ → List ℕ
split_mix_block seed = to_le_bytes w64 (mixed (next_seed seed))

-- The requests of a generator without a buffer, with blocks of 8 bytes.
abbrev pub split_mix_requests : Requests ℕ
split_mix_requests = plain split_mix_block next_seed 8
