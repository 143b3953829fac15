-- A sample of the numbers below a count, one number for each place.
use Rattle.std.specs.Prelude.{ℕ, ◌++◌, List, length, drop, ltb, if◌then◌else◌}
use Rattle.nanorand_core.specs.generators.Blocks.{Requests}
use Rattle.nanorand_core.specs.samples.Samples.{Sample, extended, sampled}
use Rattle.nanorand_calls.specs.Status.{status}

-- The status that is returned, the places, and the state afterwards.
pub record Sampling (G : Type 0) : Type 0 where
  pub status : ℕ
  pub places : List ℕ
  pub state : G

-- The result of a sample that was drawn: its numbers are in the first places, and the other places
-- are unchanged.
abbrev pub drawing : {G : Type 0} → Sample G → List ℕ → Sampling G
drawing sample places = record {
  status = status sample.answer;
  places = sample.numbers ++ drop (length sample.numbers) places;
  state = sample.state;
}

-- If there are more places than numbers, the status is 1, and nothing is drawn.
abbrev pub sampling : {G : Type 0} → Requests G → ℕ → G → List ℕ → Sampling G
sampling requests count g places =
    if ltb count (length places) then record { status = 1; places = places; state = g }
    else drawing (sampled requests (length places) count g) places

-- The same for a sample that is continued. The status is also 1 if there are fewer places than
-- `filled`.
abbrev pub extending : {G : Type 0} → Requests G → ℕ → G → List ℕ → ℕ → Sampling G
extending requests count g places filled =
    if ltb count (length places) then record { status = 1; places = places; state = g }
    else if ltb (length places) filled then record { status = 1; places = places; state = g }
    else drawing (extended requests count g places filled) places
