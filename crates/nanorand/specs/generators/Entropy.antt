-- Values made from the bytes of a reader. `Some` is the list of the bytes that a reader has left,
-- if a contract can name them, as for a slice. `None` stands for a reader whose bytes a contract
-- cannot name, such as a file.
use Rattle.std.specs.Prelude.{◌≡◌, ℕ, ◌<◌, List, length, Option, IfSome}
use Rattle.std.specs.Io.KnownBytes.{Consumes}

-- The value is made from `count` bytes of the reader. If the bytes of the reader can be named,
-- these are the next ones, and no more were taken.
abbrev pub IsMadeOf : {T : Type 0} → ℕ → (List ℕ → T) → Option (List ℕ) → Option (List ℕ) → T
    → Type 0
IsMadeOf count make old new value =
    (bytes : List ℕ) × (length bytes ≡ count) × Consumes old new bytes × (value ≡ make bytes)

-- A reader whose bytes can be named had fewer than `count` left. This says nothing about other
-- readers.
abbrev pub HasFewer : Option (List ℕ) → ℕ → Type 0
HasFewer known count = IfSome known (λ left. length left < count)

-- Fewer than `count` bytes of the reader were taken. This does not say how many if the bytes of the
-- reader cannot be named.
abbrev pub TakesFewer : Option (List ℕ) → Option (List ℕ) → ℕ → Type 0
TakesFewer old new count = (bytes : List ℕ) × (length bytes < count) × Consumes old new bytes
