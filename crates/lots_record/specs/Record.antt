-- The text of a record: what a public draw was made from, and what it drew.
use Rattle.std.specs.Prelude.{◌≡◌, ◌≢◌, ℕ, ◌+◌, ◌-◌, ◌≤◌, nat_le, if◌then◌else◌, List, [], ◌∷◌, ◌++◌, length, take, codes, decimal, Option, Some, None, Result, Ok, Err, String, string_bytes, IfSome, ⊤}
use Rattle.std.specs.Str.{IsUtf8}
use Rattle.hex.specs.Hex.{IsBytes, encode_lower}
use Rattle.sha2.specs.Sha256.{sha256}
use Rattle.lots_core.specs.Arguments.{Asked, number_asked}
use Rattle.lots_core.specs.Draws.{drawing, drawn}
use Rattle.lots_core.specs.Lists.{AreFull, IsFirstEmpty, lines_of}
use Rattle.lots_core.specs.Text.{AreTooFew, IsRefused, text_of}
use Rattle.lots_core.specs.declared.error.LotsError.{LotsError}
use Rattle.lots_core.specs.declared.error.LotsError.TheVariants.{EmptyLine, Exhausted, Memory, TooFew}
use Rattle.lots_record.specs.declared.record.Source.{Source as ASource}
use Rattle.lots_record.specs.Quoted.{quoted}

-- What a record is made from, besides the list: the seed, how many entrants are drawn, and the
-- SHA-256 of the announcement and of the module that made the draw, if there are any.
pub record Source : Type 0 where
  pub seed : List ℕ
  pub count : ℕ
  pub announcement : Option (List ℕ)
  pub program : Option (List ℕ)

-- A line: a name, a value and a line feed.
abbrev pub line : List ℕ → List ℕ → List ℕ
line name value = name ++ value ++ 10 ∷ []

-- A sum as 64 hexadecimal digits, or `none`.
abbrev pub sum_or_none : Option (List ℕ) → List ℕ
sum_or_none None = codes "none"
sum_or_none (Some sum) = encode_lower sum

-- The line of the module, if there is one.
abbrev pub module_line : Option (List ℕ) → List ℕ
module_line None = []
module_line (Some sum) = line (codes "module SHA-256: ") (encode_lower sum)

-- A line for each entrant, with its number; the first has the number k.
abbrev pub entrant_lines : ℕ → List (List ℕ) → List ℕ
entrant_lines k [] = []
entrant_lines k (entrant ∷ entrants) =
    line (decimal k ++ codes ": ") (quoted entrant) ++ entrant_lines (k + 1) entrants

-- How many are drawn beyond the first 1000, if there are any.
abbrev pub more_line : ℕ → List ℕ
more_line count =
    if nat_le count 1000 then [] else line (codes "and ") (decimal (count - 1000) ++ codes " more")

-- The entrants drawn, at most the first 1000 of them, and the last line.
abbrev pub drawn_lines : List (List ℕ) → List ℕ
drawn_lines entrants =
    entrant_lines 1 (take 1000 entrants) ++ more_line (length entrants) ++ codes "end of the record\n"

-- The lines that say what is drawn from, of a list with n entrants.
abbrev pub source_lines : Source → List ℕ → ℕ → List ℕ
source_lines source list n =
    codes "nanorand public draw 2\n"
    ++ line (codes "announcement SHA-256: ") (sum_or_none source.announcement)
    ++ line (codes "seed: ") (quoted source.seed)
    ++ line (codes "list SHA-256: ") (encode_lower (sha256 list))
    ++ line (codes "entrants: ") (decimal n)
    ++ line (codes "drawn: ") (decimal source.count)
    ++ module_line source.program

-- The lines that say what is drawn.
abbrev pub result_lines : List (List ℕ) → List ℕ
result_lines entrants =
    line (codes "result SHA-256: ") (encode_lower (sha256 (text_of entrants)))
    ++ drawn_lines entrants

-- The record of a draw from a list.
abbrev pub record_text : Source → List ℕ → List ℕ
record_text source list =
    source_lines source list (length (lines_of list))
    ++ result_lines (drawn source.seed source.count (lines_of list))

-- A sum has 32 bytes.
pub record IsSum (sum : List ℕ) : Type 0 where
  pub long : length sum ≡ 32
  pub bytes : IsBytes sum

-- A draw from this list succeeds: no line is empty, there are enough entrants, and no draw fails.
pub record IsDrawable (source : Source) (list : List ℕ) : Type 0 where
  pub full : AreFull (lines_of list)
  pub enough : source.count ≤ length (lines_of list)
  pub answer : (drawing source.seed source.count (lines_of list)).answer ≡ Ok tt

-- A draw from this list has a record: it succeeds, and its seed is a text that is not empty.
pub record HasRecord (source : Source) (list : List ℕ) : Type 0 where
  pub some : source.seed ≢ []
  pub utf8 : IsUtf8 source.seed
  pub announcement : IfSome source.announcement IsSum
  pub program : IfSome source.program IsSum
  pub draw : IsDrawable source list

-- What a source of the program describes, for a list with n entrants.
abbrev pub source_of : ASource → ℕ → Source
source_of source n = record {
  seed = source.seed.now;
  count = number_asked source.count n;
  announcement = source.announcement;
  program = source.program;
}

-- What is asked of the list.
abbrev pub asked_of : ASource → Asked
asked_of source = record { seed = source.seed.now; count = source.count }

-- The reason why there is no record. When an allocation fails is not specified. There are no other
-- errors.
abbrev pub IsRefusedWith : ASource → List ℕ → LotsError → Type 0
IsRefusedWith source list (EmptyLine k) = IsFirstEmpty (lines_of list) k
IsRefusedWith source list (TooFew n k) =
    AreFull (lines_of list) × AreTooFew (asked_of source) (lines_of list) n k
IsRefusedWith source list Exhausted =
    AreFull (lines_of list) × IsRefused (asked_of source) (lines_of list)
IsRefusedWith source list Memory = ⊤
IsRefusedWith source list other = ⊥

-- The result of making a record: its text, or the reason why there is none.
abbrev pub Recorded : {A : Type 0} → ASource → List ℕ → Result (String A) LotsError → Type 0
Recorded source list (Ok text) =
    IsDrawable (source_of source (length (lines_of list))) list
    × (string_bytes text ≡ record_text (source_of source (length (lines_of list))) list)
Recorded source list (Err error) = IsRefusedWith source list error
