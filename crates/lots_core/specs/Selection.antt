-- What is drawn from the lines of a list.
use Rattle.std.specs.Prelude.{◌≡◌, ℕ, List, length, map, take, Result, Ok, Err, Vec, ⊤}
use Rattle.std.specs.Borrow.{Bor}
use Rattle.lots_core.specs.Arguments.{Asked}
use Rattle.lots_core.specs.Draws.{drawn}
use Rattle.lots_core.specs.Lists.{AreFull, IsFirstEmpty}
use Rattle.lots_core.specs.Text.{AreTooFew, HasSelection, IsRefused, places_asked}
use Rattle.lots_core.specs.declared.error.LotsError.{LotsError}
use Rattle.lots_core.specs.declared.error.LotsError.TheVariants.{EmptyLine, Exhausted, Memory, TooFew}

-- Of these entrants, the first n are those that are drawn from the lines, in this order.
pub record AreDrawn (asked : Asked) (lines entrants : List (List ℕ)) (n : ℕ) : Type 0 where
  pub count : n ≡ places_asked asked lines
  pub long : length entrants ≡ length lines
  pub drawn : take n entrants ≡ drawn asked.seed n lines

-- The result of a draw from these lines: the entrants, those that are drawn first, and how many are
-- drawn; or the reason why there is no selection. When an allocation fails is not specified. There
-- are no other errors.
abbrev pub DrawnFrom : {A : Type 0} → Asked → List (List ℕ) → Result (Vec (Bor (List ℕ)) A × ℕ) LotsError → Type 0
DrawnFrom asked lines (Ok (entrants, n)) =
    AreFull lines × HasSelection asked lines
    × AreDrawn asked lines (map (λ entrant. entrant.now) entrants.items) n
DrawnFrom asked lines (Err (EmptyLine k)) = IsFirstEmpty lines k
DrawnFrom asked lines (Err (TooFew n k)) = AreFull lines × AreTooFew asked lines n k
DrawnFrom asked lines (Err Exhausted) = AreFull lines × IsRefused asked lines
DrawnFrom asked lines (Err Memory) = ⊤
DrawnFrom asked lines (Err other) = ⊥
