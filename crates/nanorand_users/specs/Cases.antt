-- Cases of a property test, identified by their numbers.
use Rattle.std.specs.Prelude.{ℕ}
use Rattle.nanorand_core.specs.generators.Blocks.{taken}
use Rattle.nanorand_core.specs.values.Values.{number_of}
use Rattle.nanorand.specs.generators.WyRand.{next_seed, wyrand_block, wyrand_after}

-- The seed of a case: the word of draw `number`, counted from 0, in the WyRand stream of the run's
-- seed.
abbrev pub case_seed : ℕ → ℕ → ℕ
case_seed seed number = number_of (taken wyrand_block next_seed (wyrand_after number seed) 8)
