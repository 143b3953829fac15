-- The generator `Waste`: the blocks of `Steps`, of which most requests drop one. The state is the
-- number of blocks drawn.
use Rattle.std.specs.Prelude.{ℕ, ◌==◌, ◌||◌, if◌then◌else◌}
use Rattle.nanorand_core.specs.generators.Blocks.{Requests, plain_after, taken}
use Rattle.test_support.specs.Steps.{next_count, steps_block}

-- A request of 0 or 8 bytes leaves the same state as with a generator without a buffer. Any other
-- request draws one block more.
abbrev pub waste_after : ℕ → ℕ → ℕ
waste_after g n =
    if (n == 0) || (n == 8) then plain_after next_count 8 g n
    else next_count (plain_after next_count 8 g n)

abbrev pub waste_requests : Requests ℕ
waste_requests = record { bytes = taken steps_block next_count; after = waste_after }
