-- Four words of a matrix, a column or a diagonal, replaced. Not needed to understand the contracts:
-- only clauses of private functions use this file.
use Rattle.std.specs.Prelude.{ℕ, List, slice_set}
use Rattle.nanorand.specs.generators.ChaChaRounds.{Words, line}

-- The matrix with these four words at the indices a, b, c and d.
abbrev pub put_line : List ℕ → ℕ → ℕ → ℕ → ℕ → Words → List ℕ
put_line x a b c d w = slice_set (slice_set (slice_set (slice_set x a w.0) b w.1) c w.2) d w.3

-- The matrix with f applied to its words at the indices a, b, c and d.
abbrev pub with_line : (Words → Words) → List ℕ → ℕ → ℕ → ℕ → ℕ → List ℕ
with_line f x a b c d = put_line x a b c d (line f x a b c d)
