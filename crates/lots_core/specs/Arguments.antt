-- What the command-line arguments ask for.
use Rattle.std.specs.Prelude.{◌≡◌, ◌≢◌, ℕ, ◌^◌, ◌<◌, List, [], ◌∷◌, map, codes, String, string_bytes}
use Rattle.std.specs.Str.Parse.{IsNumeral, digits_value}
use Rattle.lots_core.specs.declared.arguments.Count.{Count}
use Rattle.lots_core.specs.declared.arguments.Count.TheVariants.{All, Of}
use Rattle.lots_core.specs.declared.arguments.Request.{Request}

-- The bytes of each argument.
abbrev pub texts : {A : Type 0} → List (String A) → List (List ℕ)
texts arguments = map string_bytes arguments

-- One or more decimal digits with the value n, which is below 2^64.
pub record IsNumber (text : List ℕ) (n : ℕ) : Type 0 where
  pub digits : IsNumeral 10 text
  pub value : n ≡ digits_value 10 text
  pub fits : n < 2 ^ 64

-- A count is `all` or a number.
abbrev pub IsCount : List ℕ → Count → Type 0
IsCount text All = text ≡ codes "all"
IsCount text (Of n) = IsNumber text n

-- How many of n entrants to draw.
abbrev pub number_asked : Count → ℕ → ℕ
number_asked All n = n
number_asked (Of k) n = k

-- What a command line asks for.
pub record Asked : Type 0 where
  pub seed : List ℕ
  pub count : Count

-- What a request asks for.
abbrev pub asked_by : Request → Asked
asked_by request = record { seed = request.seed.now; count = request.count }

-- The arguments are a seed, which is not empty, and a count.
pub record AsksFor (arguments : List (List ℕ)) (asked : Asked) : Type 0 where
  pub word : List ℕ
  pub two : arguments ≡ asked.seed ∷ word ∷ []
  pub some : asked.seed ≢ []
  pub count : IsCount word asked.count
