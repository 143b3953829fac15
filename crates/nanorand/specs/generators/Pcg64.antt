-- Pcg64: a linear congruential generator with a seed below 2^128. A draw multiplies the seed by
-- `factor` and adds `term`, modulo 2^128.
use Rattle.std.specs.Prelude.{◌≡◌, ◌⊎◌, ◌==◌, Bool, ℕ, zero, suc, ◌+◌, ◌*◌, ◌%◌, ◌^◌, List}
use Rattle.std.specs.Ordering.{on, eq_of_both}
use Rattle.std.specs.Int.{w64, to_le_bytes}
use Rattle.nanorand_core.specs.generators.Blocks.{Requests, plain}
use Rattle.nanorand.specs.generators.Halves.{folded}
use Rattle.nanorand_core.specs.values.Values.{number_of}

-- The constant from which `factor` and `term` are computed.
abbrev pub multiplier : ℕ
multiplier = 47026247687942121848144207491837523525

-- The number by which a draw multiplies the seed.
abbrev pub factor : ℕ
factor = (3 * multiplier * multiplier + 2 * multiplier + 2) % 2 ^ 128

-- The number that a draw then adds.
abbrev pub term : ℕ
term = (multiplier * multiplier + multiplier + 1) % 2 ^ 128

-- The seed after one draw.
abbrev pub next_seed : ℕ → ℕ
next_seed seed = (factor * seed + term) % 2 ^ 128

-- The state of a Pcg64 in the model. Only the seed determines what is drawn: a draw writes `state`
-- and `inc`, and no draw reads them.
pub record Generator : Type 0 where
  pub seed : ℕ
  pub state : ℕ
  pub inc : ℕ

-- The generator with this seed, before its first draw.
abbrev pub initial_generator : ℕ → Generator
initial_generator seed = record { seed = seed; state = 0; inc = 0 }

-- The generator made from a seed of 16 bytes: the seed is their little-endian number.
abbrev pub seeded_generator : List ℕ → Generator
seeded_generator seed = initial_generator (number_of seed)

-- The generator after one draw: `state` is the new seed, and `inc` is twice the old seed plus 1,
-- modulo 2^128.
abbrev pub next : Generator → Generator
next g = record {
  seed = next_seed g.seed;
  state = next_seed g.seed;
  inc = (2 * g.seed + 1) % 2 ^ 128;
}

-- The next block: the eight bytes of the word of the new seed, in little-endian order. The word of
-- a seed is the xor of its two 64-bit halves.
abbrev pub pcg64_block : Generator → List ℕ
pcg64_block g = to_le_bytes w64 (folded (next_seed g.seed))

-- The requests of a Pcg64: those of a generator without a buffer, whose blocks have 8 bytes.
abbrev pub pcg64_requests : Requests Generator
pcg64_requests = plain pcg64_block next 8

-- The generator reseeded with these bytes: the seed is their little-endian number, and `state` and
-- `inc` are unchanged.
abbrev pub reseeded : Generator → List ℕ → Generator
reseeded g bytes = record { seed = number_of bytes; state = g.state; inc = g.inc }

-- Two generators are compared by all three numbers.
abbrev pub same_generator : Generator → Generator → Bool
same_generator =
    eq_of_both (eq_of_both (on (λ g. g.seed) ◌==◌) (on (λ g. g.state) ◌==◌)) (on (λ g. g.inc) ◌==◌)

-- The geometric sum 1 + a + .. + a^(n - 1).
unfoldable pub geometric_sum : ℕ → ℕ → ℕ
geometric_sum a zero = 0
geometric_sum a (suc n) = geometric_sum a n + a ^ n

-- The result of applying x ↦ a * x + c to s n times, in closed form.
unfoldable pub affine_after : ℕ → ℕ → ℕ → ℕ → ℕ
affine_after a c n s = a ^ n * s + c * geometric_sum a n

-- The seed after n draws, in closed form.
abbrev pub seed_after : ℕ → ℕ → ℕ
seed_after n seed = affine_after factor term n seed % 2 ^ 128

-- The generator after n draws, in closed form: `state` is its seed, and `inc` is made from the seed
-- one draw earlier. After 0 draws it is unchanged.
abbrev pub pcg64_after : ℕ → Generator → Generator
pcg64_after zero g = g
pcg64_after (suc n) g = record {
  seed = seed_after (suc n) g.seed;
  state = seed_after (suc n) g.seed;
  inc = (2 * seed_after n g.seed + 1) % 2 ^ 128;
}

-- Two seeds are on the same cycle: they are equal modulo 8, or their sum is 7 modulo 8. So there
-- are four cycles: the residues 0 and 7, 1 and 6, 2 and 5, 3 and 4.
abbrev pub SameCycle : ℕ → ℕ → Type 0
SameCycle s t = (s % 8 ≡ t % 8) ⊎ ((s + t) % 8 ≡ 7)
