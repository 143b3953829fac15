-- 128-bit numbers, as their low and their high 64 bits, and the generator with such a seed.
use Rattle.std.specs.Prelude.{ℕ, ◌+◌, ◌*◌, ◌^◌}
use Rattle.nanorand.specs.generators.Pcg64.{Generator, initial_generator}
use Rattle.nanorand_calls.specs.declared.wide.Wide.{Wide}

abbrev pub wide_number : Wide → ℕ
wide_number wide = wide.low + 2 ^ 64 * wide.high

-- The generator with this seed, before its first draw.
abbrev pub at_seed : Wide → Generator
at_seed wide = initial_generator (wide_number wide)
