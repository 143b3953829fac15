-- WyRand: its state is its seed, a number below 2^64, to which each draw adds a constant.
use Rattle.std.specs.Prelude.{ℕ, zero, suc, ◌+◌, ◌*◌, ◌%◌, ◌^◌, List, bit_xor}
use Rattle.std.specs.Int.{w64, to_le_bytes}
use Rattle.nanorand_core.specs.generators.Blocks.{Requests, plain}
use Rattle.nanorand.specs.generators.Halves.{folded}

-- The number that a draw adds to the seed, modulo 2^64.
abbrev pub increment : ℕ
increment = 0xa0761d6478bd642f

-- The seed after one draw.
abbrev pub next_seed : ℕ → ℕ
next_seed seed = (seed + increment) % 2 ^ 64

-- The 64-bit word of a new seed: the 128-bit product of the seed and (the seed xor a constant),
-- folded.
abbrev pub word : ℕ → ℕ
word seed = folded (seed * bit_xor seed 0xe7037ed1a0b428db)

-- The next block: the eight bytes of the word of the new seed, in little-endian order.
abbrev pub wyrand_block : ℕ → List ℕ
wyrand_block seed = to_le_bytes w64 (word (next_seed seed))

-- The requests of a WyRand: those of a generator without a buffer, whose blocks have 8 bytes.
abbrev pub wyrand_requests : Requests ℕ
wyrand_requests = plain wyrand_block next_seed 8

-- The seed after n draws, in closed form.
abbrev pub seed_after : ℕ → ℕ → ℕ
seed_after n seed = (seed + n * increment) % 2 ^ 64

-- The state after n draws. After 0 draws every number is unchanged, even one that is not a seed.
abbrev pub wyrand_after : ℕ → ℕ → ℕ
wyrand_after zero seed = seed
wyrand_after (suc n) seed = seed_after (suc n) seed
