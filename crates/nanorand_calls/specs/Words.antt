-- The number of words that a call draws.
use Rattle.std.specs.Prelude.{◌≡◌, ℕ, ◌≤◌}

-- `end` is what `after` yields for some n of at most `most`: the state, or a part of it, after n
-- words.
abbrev pub IsAfterAtMost : {S : Type 0} → ℕ → (ℕ → S) → S → Type 0
IsAfterAtMost most after end = (n : ℕ) × (n ≤ most) × (end ≡ after n)
