-- The entrants of a list, which are its lines.
use Rattle.std.specs.Prelude.{◌≡◌, ◌≢◌, ℕ, ◌-◌, ◌<◌, ◌≤◌, ◌==◌, if◌then◌else◌, List, [], ◌∷◌, length, slice_index_or}
use Rattle.std.specs.Prelude.{take, All}
use Rattle.std.specs.List.{onto_first}

-- The lines of a text, without their line feeds. The last line need not end with one.
abbrev pub lines_of : List ℕ → List (List ℕ)
lines_of [] = []
lines_of (byte ∷ bytes) =
    if byte == 10 then [] ∷ lines_of bytes else onto_first byte (lines_of bytes)

-- No byte is a line feed.
abbrev pub HasNoLineFeed : List ℕ → Type 0
HasNoLineFeed bytes = All (λ byte. byte ≢ 10) bytes

-- No line is empty.
abbrev pub AreFull : List (List ℕ) → Type 0
AreFull lines = All (λ line. line ≢ []) lines

-- Line k, counted from 1, is the first empty line.
pub record IsFirstEmpty (lines : List (List ℕ)) (k : ℕ) : Type 0 where
  pub counted : 0 < k
  pub there : k ≤ length lines
  pub empty : slice_index_or lines (k - 1) [] ≡ []
  pub first : AreFull (take (k - 1) lines)
