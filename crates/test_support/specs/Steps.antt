-- The generator `Steps`: the bytes 0, 1, 2, .. in blocks of eight. The state is the number of
-- blocks drawn.
use Rattle.std.specs.Prelude.{ℕ, ◌+◌, ◌*◌, ◌%◌, ◌^◌, List, [], ◌∷◌}

-- The count after one more block, modulo 2^64.
abbrev pub next_count : ℕ → ℕ
next_count n = (n + 1) % 2 ^ 64

-- Block n: the bytes from 8 n on, modulo 256.
abbrev pub steps_block : ℕ → List ℕ
steps_block n =
    (8 * n) % 256 ∷ (8 * n + 1) % 256 ∷ (8 * n + 2) % 256 ∷ (8 * n + 3) % 256
    ∷ (8 * n + 4) % 256 ∷ (8 * n + 5) % 256 ∷ (8 * n + 6) % 256 ∷ (8 * n + 7) % 256 ∷ []
