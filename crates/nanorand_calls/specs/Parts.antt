-- How C moves to a part: the status, and the state afterwards.
use Rattle.std.specs.Prelude.{ℕ, ◌+◌, ◌*◌, nat_le, if◌then◌else◌}
use Rattle.nanorand_core.specs.generators.Blocks.{Requests}
use Rattle.nanorand.specs.generators.Parts.{part_at}

-- 0 and the state at the beginning of part i; or, if this part ends past the period, 3 and the old
-- state.
abbrev pub parting : {G : Type 0} → Requests G → ℕ → ℕ → ℕ → G → ℕ × G
parting requests period draws i g =
    if nat_le ((i + 1) * draws) period then (0, part_at requests draws i g) else (3, g)
