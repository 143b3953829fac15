-- The commands of the program that write and check records.
use Rattle.std.specs.Prelude.{ℕ, List, length, ⊤, codes, Option, Some, None, Result, Ok, Err}
use Rattle.std.specs.Borrow.{Bor}
use Rattle.sha2.specs.Sha256.{sha256}
use Rattle.lots_core.specs.Arguments.{number_asked}
use Rattle.lots_core.specs.Text.{status_of}
use Rattle.lots_core.specs.declared.error.LotsError.{LotsError}
use Rattle.lots_core.specs.declared.error.LotsError.TheVariants.{Memory, Read, Write}
use Rattle.lots_core.specs.Lists.{AreFull, lines_of}
use Rattle.lots_core.specs.Text.{WasRead}
use Rattle.lots_core.specs.declared.arguments.Request.{Request}
use Rattle.lots_record.specs.Check.{IsAnnounced, given}
use Rattle.lots_record.specs.Record.{IsRefusedWith, Source}
use Rattle.lots_record.specs.declared.check_error.CheckError.{CheckError}
use Rattle.lots_record.specs.declared.check_error.CheckError.TheVariants.{Differs, Draw, NotAnnounced, OtherAnnouncement, OtherList, Unreadable}

-- The SHA-256 of an announcement, if there is one.
abbrev pub sum_of : Option (Bor (List ℕ)) → Option (List ℕ)
sum_of None = None
sum_of (Some text) = Some (sha256 text.now)

-- The line that says that a record agrees.
abbrev pub agreement : Option (Bor (List ℕ)) → List ℕ
agreement None = codes "the record agrees with the list; no announcement was compared\n"
agreement (Some text) = codes "the record agrees with the list, and names the announcement\n"

-- The exit status of a check.
abbrev pub check_status : Result Unit CheckError → ℕ
check_status (Ok tt) = 0
check_status (Err (Draw error)) = status_of (Err error)
check_status (Err Unreadable) = 9
check_status (Err OtherAnnouncement) = 10
check_status (Err OtherList) = 11
check_status (Err Differs) = 11
check_status (Err NotAnnounced) = 12

-- Memory ran out, the reader failed, or the writer did.
abbrev pub IsFailure : LotsError → Type 0
IsFailure Memory = ⊤
IsFailure Read = ⊤
IsFailure Write = ⊤
IsFailure other = ⊥

abbrev pub IsFailedCheck : CheckError → Type 0
IsFailedCheck (Draw error) = IsFailure error
IsFailedCheck other = ⊥

-- What the record of a request is made from, for a list.
abbrev pub source_asked : Request → Option (Bor (List ℕ)) → List ℕ → Source
source_asked request announcement list = record {
  seed = request.seed.now;
  count = number_asked request.count (length (lines_of list));
  announcement = sum_of announcement;
  program = None;
}

-- Why there is no record of a request for a list.
abbrev pub IsUnrecorded : Request → Option (Bor (List ℕ)) → List ℕ → CheckError → Type 0
IsUnrecorded request announcement list (Draw error) =
    IsRefusedWith (record { seed = request.seed; count = request.count; announcement = None; program = None })
    list error
IsUnrecorded request announcement list NotAnnounced =
    AreFull (lines_of list)
    × (IsAnnounced (given announcement) list (number_asked request.count (length (lines_of list))) → ⊥)
IsUnrecorded request announcement list other = ⊥

-- The list was read to its end, and there is this reason in it.
abbrev pub InList : Option (List ℕ) → Option (List ℕ) → (List ℕ → Type 0) → Type 0
InList before after Reason = (list : List ℕ) × WasRead before after list × Reason list
