-- Many draws at once, and the periods of a generator's blocks. A draw takes one block. `step` is
-- the state after one draw, and `after n` the state after n draws in closed form.
use Rattle.std.specs.Prelude.{◌≡◌, ℕ, ◌+◌, ◌%◌, ◌<◌, ◌↔◌}
use Rattle.std.specs.Fn.{iterate}
use Rattle.std.specs.Int.{◌∣◌}

-- d is a period of a state: after d draws the blocks are the same as from the start. So 0 is always
-- a period.
abbrev pub IsPeriod : {G B : Type 0} → (G → G) → (G → B) → G → ℕ → Type 0
IsPeriod step block g d =
    (n : ℕ) → block (iterate step n (iterate step d g)) ≡ block (iterate step n g)

-- The periods of a state are exactly the multiples of one number.
abbrev pub PeriodsAreMultiplesOf : {G B : Type 0} → ℕ → (G → G) → (G → B) → G → Type 0
PeriodsAreMultiplesOf period step block g = (d : ℕ) → IsPeriod step block g d ↔ (period ∣ d)

-- n draws, made one by one, leave the state `after n`.
abbrev pub DrawsLeave : {G : Type 0} → (G → G) → (ℕ → G → G) → Type 0
DrawsLeave {G} step after = (n : ℕ) (g : G) → iterate step n g ≡ after n g

-- One more draw is one more step.
abbrev pub OneMoreDraw : {G : Type 0} → (G → G) → (ℕ → G → G) → Type 0
OneMoreDraw {G} step after = (n : ℕ) (g : G) → after (n + 1) g ≡ step (after n g)

-- m draws and then n draws are m + n draws.
abbrev pub DrawsAdd : {G : Type 0} → (ℕ → G → G) → Type 0
DrawsAdd {G} after = (m n : ℕ) (g : G) → after n (after m g) ≡ after (m + n) g

-- i draws and j draws lead from a seed to the same seed if and only if i and j agree modulo the
-- period.
abbrev pub AgreeModulo : ℕ → (ℕ → ℕ → ℕ) → ℕ → Type 0
AgreeModulo period seed_after seed =
    (i j : ℕ) → (seed_after i seed ≡ seed_after j seed) ↔ (i % period ≡ j % period)

-- Some number of draws leads from seed s to seed t.
abbrev pub Reaches : (ℕ → ℕ → ℕ) → ℕ → ℕ → Type 0
Reaches seed_after s t = (n : ℕ) × (seed_after n s ≡ t)

-- Exactly one number of draws below the period leads from seed s to seed t.
abbrev pub ReachesOnceBelow : ℕ → (ℕ → ℕ → ℕ) → ℕ → ℕ → Type 0
ReachesOnceBelow period seed_after s t =
    (n : ℕ) × (n < period) × (seed_after n s ≡ t)
    × ((m : ℕ) → m < period → seed_after m s ≡ t → m ≡ n)
