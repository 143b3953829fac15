-- The text that is written, and when a run ends with which result.
use Rattle.std.specs.Prelude.{◌≡◌, ℕ, ◌<◌, ◌≤◌, List, [], ◌∷◌, ◌++◌, length, Option, Result, Ok, Err, Vec, ⊤}
use Rattle.std.specs.Io.KnownBytes.{Consumes, IsAtEnd}
use Rattle.std.specs.List.{flat_map}
use Rattle.lots_core.specs.declared.error.LotsError.{LotsError}
use Rattle.lots_core.specs.declared.error.LotsError.TheVariants.{Usage, TooFew, EmptyLine, Memory, Read, Write}
use Rattle.lots_core.specs.declared.error.LotsError.TheVariants.{Exhausted}
use Rattle.lots_core.specs.Arguments.{Asked, AsksFor, number_asked}
use Rattle.lots_core.specs.Draws.{drawing, drawn}
use Rattle.lots_core.specs.Lists.{AreFull, IsFirstEmpty, lines_of}
use Rattle.lots_core.specs.declared.arguments.Count.TheVariants.{Of}
use Rattle.nanorand_core.specs.declared.values.range.RangeError.TheVariants as ranges

-- The reader was read to its end, and its bytes are this list. If the bytes of the reader are not
-- known, the list may be any list.
pub record WasRead (before after : Option (List ℕ)) (list : List ℕ) : Type 0 where
  pub bytes : Consumes before after list
  pub end : IsAtEnd after

-- Returns how many of the entrants to draw.
abbrev pub places_asked : Asked → List (List ℕ) → ℕ
places_asked asked entrants = number_asked asked.count (length entrants)

-- The entrants have a selection: there are enough of them, and no draw fails.
pub record HasSelection (asked : Asked) (entrants : List (List ℕ)) : Type 0 where
  pub enough : places_asked asked entrants ≤ length entrants
  pub answer : (drawing asked.seed (places_asked asked entrants) entrants).answer ≡ Ok tt

-- There is no selection, since there are n entrants and k, which is more, are asked for.
pub record AreTooFew (asked : Asked) (entrants : List (List ℕ)) (n k : ℕ) : Type 0 where
  pub there : n ≡ length entrants
  pub asked_for : asked.count ≡ Of k
  pub fewer : n < k

-- There is no selection, since a draw fails: 128 words in a row are rejected.
abbrev pub IsRefused : Asked → List (List ℕ) → Type 0
IsRefused asked entrants =
    (drawing asked.seed (places_asked asked entrants) entrants).answer ≡ Err ranges.Exhausted

-- The text of lines, each ended by a line feed.
abbrev pub text_of : List (List ℕ) → List ℕ
text_of lines = flat_map (λ line. line ++ 10 ∷ []) lines

-- The text of the entrants drawn, in the order in which they are drawn.
abbrev pub text_drawn : Asked → List (List ℕ) → List ℕ
text_drawn asked entrants =
    text_of (drawn asked.seed (places_asked asked entrants) entrants)

-- The result of a draw from these lines: the text of the selection, or the reason why there is
-- none. When an allocation fails is not specified. There are no other errors.
abbrev pub Outcome : {A : Type 0} → Asked → List (List ℕ) → Result (Vec ℕ A) LotsError → Type 0
Outcome asked lines (Ok text) =
    AreFull lines × HasSelection asked lines × (text.items ≡ text_drawn asked lines)
Outcome asked lines (Err (EmptyLine k)) = IsFirstEmpty lines k
Outcome asked lines (Err (TooFew n k)) = AreFull lines × AreTooFew asked lines n k
Outcome asked lines (Err Exhausted) = AreFull lines × IsRefused asked lines
Outcome asked lines (Err Memory) = ⊤
Outcome asked lines (Err other) = ⊥

-- The arguments ask for a selection, and the list that was read has one, with this text.
pub record IsDrawn (arguments : List (List ℕ)) (before after : Option (List ℕ)) (text : List ℕ)
    : Type 0 where
  pub asked : Asked
  pub list : List ℕ
  pub asks : AsksFor arguments asked
  pub read : WasRead before after list
  pub full : AreFull (lines_of list)
  pub selection : HasSelection asked (lines_of list)
  pub is : text ≡ text_drawn asked (lines_of list)

-- The exit status of the program.
abbrev pub status_of : Result Unit LotsError → ℕ
status_of (Ok tt) = 0
status_of (Err Usage) = 2
status_of (Err (TooFew entrants count)) = 3
status_of (Err (EmptyLine k)) = 4
status_of (Err Memory) = 5
status_of (Err Read) = 6
status_of (Err Write) = 7
status_of (Err Exhausted) = 8
