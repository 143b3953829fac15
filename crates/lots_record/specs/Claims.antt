-- What is read back from a record.
use Rattle.std.specs.Prelude.{◌≡◌, ◌<◌, ◌^◌, ℕ, List, [], All, codes, decimal, Option, Some, None, IfSome, Result, Ok, Err, Vec}
use Rattle.hex.specs.Hex.{encode_lower}
use Rattle.sha2.specs.Sha256.{sha256}
use Rattle.lots_core.specs.declared.error.LotsError.TheVariants.{Memory}
use Rattle.lots_record.specs.Quoted.{quoted}
use Rattle.lots_record.specs.Record.{IsSum, Source, sum_or_none}
use Rattle.lots_record.specs.declared.check_error.CheckError.{CheckError}
use Rattle.lots_record.specs.declared.check_error.CheckError.TheVariants.{Draw}
use Rattle.lots_record.specs.declared.claims.Claims.{Claims}
use Rattle.lots_record.specs.declared.claims.Values.{Values}

-- The bytes are read, or memory runs out.
abbrev pub Reads : {A : Type 0} → List ℕ → Result (Vec ℕ A) CheckError → Type 0
Reads bytes (Ok read) = read.items ≡ bytes
Reads bytes (Err error) = error ≡ Draw Memory

-- The digits of a sum, or none.
abbrev pub digits_of : Option (List ℕ) → List ℕ
digits_of None = []
digits_of (Some sum) = encode_lower sum

-- The values are those that a record of this source has, for a list with these bytes.
pub record AreValues (values : Values) (source : Source) (bytes : List ℕ) : Type 0 where
  pub format : values.format.now ≡ codes "2"
  pub announcement : values.announcement.now ≡ sum_or_none source.announcement
  pub seed : values.seed.now ≡ quoted source.seed
  pub list : values.list.now ≡ encode_lower (sha256 bytes)
  pub drawn : values.drawn.now ≡ decimal source.count
  pub program : values.program.now ≡ digits_of source.program

-- A source whose record can be read back: its seed has bytes, its sums 32 of them.
pub record CanBeRead (source : Source) : Type 0 where
  pub seed : All (λ byte. byte < 256) source.seed
  pub count : source.count < 2 ^ 64
  pub announcement : IfSome source.announcement IsSum
  pub program : IfSome source.program IsSum

-- The sums have 32 bytes.
pub record AreSums {A : Type 0} (claims : Claims A) : Type 0 where
  pub announcement : IfSome claims.announcement IsSum
  pub program : IfSome claims.program IsSum

-- The source is read, or memory runs out.
abbrev pub IsClaimed : {A : Type 0} → Source → Result (Claims A) CheckError → Type 0
IsClaimed source (Ok claims) =
    (claims.seed.items ≡ source.seed) × (claims.count ≡ source.count)
    × (claims.announcement ≡ source.announcement) × (claims.program ≡ source.program)
IsClaimed source (Err error) = error ≡ Draw Memory
