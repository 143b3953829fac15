-- Retry delays (exponential backoff with equal jitter): each delay is drawn from half a ceiling to
-- the ceiling, which doubles up to a cap.
use Rattle.std.specs.Prelude.{ℕ, zero, suc, ◌+◌, ◌*◌, ◌/◌, ◌^◌, List, [], ◌∷◌, Result, min}
use Rattle.std.specs.Result.{result_unwrap_or}
use Rattle.std.specs.declared.ops.Bound.TheVariants.{Included}
use Rattle.nanorand_core.specs.generators.Blocks.{Requests}
use Rattle.nanorand_core.specs.values.Draws.{unsigned_outcome}
use Rattle.nanorand_core.specs.declared.values.range.RangeError.{RangeError}

-- The ceiling of delay k, counted from 0.
abbrev pub ceiling_after : ℕ → ℕ → ℕ → ℕ
ceiling_after first cap k = min (first * 2 ^ k) cap

module _ {G : Type 0} (requests : Requests G) where
  -- A delay drawn from half the ceiling, rounded down, to the ceiling, and the state after the
  -- draw.
  unfoldable pub delay_drawn : ℕ → G → Result ℕ RangeError × G
  delay_drawn ceiling g = unsigned_outcome requests 64 g (Included (ceiling / 2)) (Included ceiling)

  module _ (first cap : ℕ) where
    -- The n delays from delay k on. If a draw fails, the delay is its ceiling.
    abbrev pub delays_after : ℕ → ℕ → G → List ℕ
    delays_after k zero g = []
    delays_after k (suc n) g =
        result_unwrap_or (delay_drawn (ceiling_after first cap k) g).0 (ceiling_after first cap k)
        ∷ delays_after (k + 1) n (delay_drawn (ceiling_after first cap k) g).1

    -- The state after these delays.
    abbrev pub state_after_delays : ℕ → ℕ → G → G
    state_after_delays k zero g = g
    state_after_delays k (suc n) g =
        state_after_delays (k + 1) n (delay_drawn (ceiling_after first cap k) g).1
