-- What a test of equality means.
use Rattle.std.specs.Prelude.{◌≡◌, ◌↔◌, Bool, IsTrue}

-- A test of two states is true if and only if they are equal.
abbrev pub DecidesEquality : {G : Type 0} → (G → G → Bool) → Type 0
DecidesEquality {G} eq = (g h : G) → IsTrue (eq g h) ↔ (g ≡ h)
