-- The text of an announcement: what a public draw will be made from, before its seed exists.
use Rattle.std.specs.Prelude.{◌≡◌, ◌≢◌, ℕ, ◌+◌, ◌-◌, ◌<◌, ◌≤◌, ◌^◌, Bool, List, [], ◌++◌, length, min, Decides, codes, decimal, Option, Some, None, Result, Ok, Err, String, string_bytes, ⊤}
use Rattle.std.specs.Str.{IsUtf8}
use Rattle.hex.specs.Hex.{encode_lower}
use Rattle.sha2.specs.Sha256.{sha256}
use Rattle.lots_core.specs.Lists.{AreFull, IsFirstEmpty, lines_of}
use Rattle.lots_record.specs.Quoted.{quoted}
use Rattle.lots_record.specs.Record.{line}
use Rattle.lots_core.specs.declared.error.LotsError.{LotsError}
use Rattle.lots_core.specs.declared.error.LotsError.TheVariants.{EmptyLine, Memory, TooFew}
use Rattle.lots_record.specs.declared.announcement.Lines.{Lines}
use Rattle.lots_record.specs.declared.announcement.Texts.{Texts}
use Rattle.lots_record.specs.declared.announcement.Plan.{Plan as APlan}

-- What an announcement says, besides the list.
pub record Plan : Type 0 where
  pub occasion : List ℕ
  pub winners : ℕ
  pub reserves : ℕ
  pub source : List ℕ
  pub form : List ℕ
  pub example : List ℕ
  pub time : List ℕ

-- What a plan of the program says.
abbrev pub plan_of : APlan → Plan
plan_of plan = record {
  occasion = plan.occasion.now;
  winners = plan.winners;
  reserves = plan.reserves;
  source = plan.source.now;
  form = plan.form.now;
  example = plan.example.now;
  time = plan.time.now;
}

-- The lines of a list with n entrants.
abbrev pub list_lines : List ℕ → ℕ → List ℕ
list_lines list n =
    line (codes "list SHA-256: ") (encode_lower (sha256 list)) ++ line (codes "entrants: ") (decimal n)

-- The lines that say where the seed comes from, and when.
abbrev pub seed_lines : Plan → List ℕ
seed_lines plan =
    line (codes "seed source: ") (quoted plan.source) ++ line (codes "seed form: ") (quoted plan.form)
    ++ line (codes "seed example: ") (quoted plan.example) ++ line (codes "time: ") (quoted plan.time)

-- The announcement of a draw from a list with n entrants.
abbrev pub text_of : Plan → List ℕ → ℕ → List ℕ
text_of plan list n =
    codes "nanorand announcement 1\n"
    ++ line (codes "occasion: ") (quoted plan.occasion)
    ++ list_lines list n
    ++ line (codes "winners: ") (decimal plan.winners)
    ++ line (codes "reserves: ") (decimal plan.reserves)
    ++ seed_lines plan
    ++ codes "end of the announcement\n"

-- The reason why there is no announcement. The number that is too large is the sum of winners and
-- reserves, at most 2^64 - 1. When an allocation fails is not specified. There are no other errors.
abbrev pub IsUnannounced : Plan → List ℕ → LotsError → Type 0
IsUnannounced plan list (EmptyLine k) = IsFirstEmpty (lines_of list) k
IsUnannounced plan list (TooFew n k) =
    AreFull (lines_of list) × (n ≡ length (lines_of list)) × (n < plan.winners + plan.reserves)
    × (k ≡ min (plan.winners + plan.reserves) (2 ^ 64 - 1))
IsUnannounced plan list Memory = ⊤
IsUnannounced plan list other = ⊥

-- The result of making an announcement: its text, or the reason why there is none.
abbrev pub Announced : {A : Type 0} → Plan → List ℕ → Result (String A) LotsError → Type 0
Announced plan list (Ok text) =
    AreFull (lines_of list) × (plan.winners + plan.reserves ≤ length (lines_of list))
    × (string_bytes text ≡ text_of plan list (length (lines_of list)))
Announced plan list (Err error) = IsUnannounced plan list error

-- No text of the plan is empty, there is a winner, and winners and reserves are `count` together.
abbrev pub Announces : Plan → ℕ → Type 0
Announces plan count =
    (plan.occasion ≢ []) × (plan.source ≢ []) × (plan.form ≢ []) × (plan.example ≢ []) × (plan.time ≢ [])
    × (1 ≤ plan.winners) × (count ≡ plan.winners + plan.reserves)

-- The texts of a plan are UTF-8, and its numbers are below 2^64.
pub record IsText (plan : Plan) : Type 0 where
  pub occasion : IsUtf8 plan.occasion
  pub source : IsUtf8 plan.source
  pub form : IsUtf8 plan.form
  pub example : IsUtf8 plan.example
  pub time : IsUtf8 plan.time
  pub winners : plan.winners < 2 ^ 64
  pub reserves : plan.reserves < 2 ^ 64

-- A text is the announcement of a draw of `count` entrants from a list: there is a plan with which
-- it is written.
pub record IsAnnouncement (text list : List ℕ) (count : ℕ) : Type 0 where
  pub plan : Plan
  pub is_text : IsText plan
  pub announces : Announces plan count
  pub is : text ≡ text_of plan list (length (lines_of list))

-- The values of the lines of an announcement.
pub record AreLines (lines : Lines) (plan : Plan) : Type 0 where
  pub format : lines.format.now ≡ codes "1"
  pub occasion : lines.occasion.now ≡ quoted plan.occasion
  pub winners : lines.winners.now ≡ decimal plan.winners
  pub reserves : lines.reserves.now ≡ decimal plan.reserves
  pub source : lines.source.now ≡ quoted plan.source
  pub form : lines.form.now ≡ quoted plan.form
  pub example : lines.example.now ≡ quoted plan.example
  pub time : lines.time.now ≡ quoted plan.time

-- The bytes are read, or memory runs out.
abbrev pub ReadsText : {A : Type 0} → List ℕ → Result (Option (String A)) LotsError → Type 0
ReadsText bytes (Ok (Some read)) = string_bytes read ≡ bytes
ReadsText bytes (Ok None) = ⊥
ReadsText bytes (Err error) = error ≡ Memory

-- Whether a statement holds is told, or memory runs out.
abbrev pub Tells : Type 0 → Result Bool LotsError → Type 0
Tells P (Ok test) = Decides test P
Tells P (Err error) = error ≡ Memory

-- The texts of a plan are read, or memory runs out.
abbrev pub ReadsTexts : {A : Type 0} → Plan → Result (Option (Texts A)) LotsError → Type 0
ReadsTexts plan (Ok (Some texts)) =
    (string_bytes texts.occasion ≡ plan.occasion) × (string_bytes texts.source ≡ plan.source)
    × (string_bytes texts.form ≡ plan.form) × (string_bytes texts.example ≡ plan.example)
    × (string_bytes texts.time ≡ plan.time)
ReadsTexts plan (Ok None) = ⊥
ReadsTexts plan (Err error) = error ≡ Memory
