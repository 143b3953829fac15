-- When a text agrees with a list as the record of a draw, and why another is refused.
use Rattle.std.specs.Prelude.{◌≡◌, ◌<◌, ℕ, List, length, Option, Some, None, ⊤}
use Rattle.std.specs.Borrow.{Bor}
use Rattle.sha2.specs.Sha256.{sha256}
use Rattle.lots_core.specs.Lists.{IsFirstEmpty, lines_of}
use Rattle.lots_core.specs.declared.error.LotsError.{LotsError}
use Rattle.lots_core.specs.declared.error.LotsError.TheVariants.{EmptyLine, Exhausted, Memory, TooFew}
use Rattle.lots_record.specs.Announcement.{IsAnnouncement}
use Rattle.lots_record.specs.Record.{HasRecord, Source, record_text}
use Rattle.lots_record.specs.declared.check_error.CheckError.{CheckError}
use Rattle.lots_record.specs.declared.check_error.CheckError.TheVariants.{Differs, Draw, NotAnnounced, OtherAnnouncement, OtherList, Unreadable}

-- A record names this announcement, if one is given.
abbrev pub NamesAnnouncement : Option (List ℕ) → Option (List ℕ) → Type 0
NamesAnnouncement None sum = ⊤
NamesAnnouncement (Some text) sum = sum ≡ Some (sha256 text)

-- The text of an announcement that is given.
abbrev pub given : Option (Bor (List ℕ)) → Option (List ℕ)
given None = None
given (Some text) = Some text.now

-- The announcement, if one is given, is that of a draw of `count` entrants from the list.
abbrev pub IsAnnounced : Option (List ℕ) → List ℕ → ℕ → Type 0
IsAnnounced None list count = ⊤
IsAnnounced (Some text) list count = IsAnnouncement text list count

-- A text is the record of a draw from this list: there are a seed, a number and sums with which it
-- is written. It names the announcement, if one is given.
pub record IsRecord (text list : List ℕ) (announcement : Option (List ℕ)) : Type 0 where
  pub source : Source
  pub has : HasRecord source list
  pub names : NamesAnnouncement announcement source.announcement
  pub announced : IsAnnounced announcement list source.count
  pub is : text ≡ record_text source list

-- A text is the record of the draw of this source from a list.
pub record IsRecordOf (text list : List ℕ) (source : Source) : Type 0 where
  pub has : HasRecord source list
  pub is : text ≡ record_text source list

-- A text is no record of a draw from this list, whatever announcement it names.
abbrev pub IsNoRecord : List ℕ → List ℕ → Type 0
IsNoRecord text list = (source : Source) → IsRecordOf text list source → ⊥

-- Why a draw that a text describes fails. When an allocation fails is not specified.
abbrev pub IsFailedDraw : List ℕ → List ℕ → LotsError → Type 0
IsFailedDraw text list (EmptyLine k) = IsFirstEmpty (lines_of list) k
IsFailedDraw text list (TooFew n k) =
    (n ≡ length (lines_of list)) × (n < k) × IsNoRecord text list
IsFailedDraw text list Exhausted = IsNoRecord text list
IsFailedDraw text list Memory = ⊤
IsFailedDraw text list other = ⊥

-- Why a text is refused. Records of this list are refused only for the announcement: they name
-- another one, or it is not that of the draw.
abbrev pub IsRefusal : List ℕ → List ℕ → Option (List ℕ) → CheckError → Type 0
IsRefusal text list announcement (Draw error) = IsFailedDraw text list error
IsRefusal text list announcement Unreadable = IsNoRecord text list
IsRefusal text list announcement OtherList = IsNoRecord text list
IsRefusal text list announcement Differs = IsNoRecord text list
IsRefusal text list announcement OtherAnnouncement =
    (source : Source) → IsRecordOf text list source
    → NamesAnnouncement announcement source.announcement → ⊥
IsRefusal text list announcement NotAnnounced =
    (source : Source) → IsRecordOf text list source
    → IsAnnounced announcement list source.count → ⊥
