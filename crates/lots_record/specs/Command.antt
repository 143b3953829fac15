-- What the command line asks the program to do.
use Rattle.std.specs.Prelude.{◌≡◌, ℕ, ◌+◌, List, [], ◌∷◌, ◌++◌, codes, Some, None}
use Rattle.lots_core.specs.Arguments.{Asked, AsksFor, IsNumber, asked_by}
use Rattle.lots_record.specs.Announcement.{Announces, plan_of}
use Rattle.lots_record.specs.declared.command.Command.{Command}
use Rattle.lots_record.specs.declared.command.Command.TheVariants.{Announce, Check, Draw, Help, Version}
use Rattle.lots_record.specs.declared.command.Command.TheVariants.{Record as ARecord}

-- The arguments are those of this command, which is not a draw.
abbrev pub Names : List (List ℕ) → Command → Type 0
Names arguments Draw = ⊥
Names arguments (Announce plan) =
    (winners reserves : List ℕ) × IsNumber winners plan.winners × IsNumber reserves plan.reserves
    × Announces (plan_of plan) (plan.winners + plan.reserves)
    × (arguments ≡ codes "--announce" ∷ plan.occasion.now ∷ winners ∷ reserves ∷ plan.source.now
    ∷ plan.form.now ∷ plan.example.now ∷ plan.time.now ∷ [])
Names arguments (ARecord request None) =
    (words : List (List ℕ)) × (arguments ≡ codes "--record" ∷ words) × AsksFor words (asked_by request)
Names arguments (ARecord request (Some path)) =
    (words : List (List ℕ)) × (arguments ≡ codes "--record" ∷ (words ++ path.now ∷ []))
    × AsksFor words (asked_by request)
Names arguments (Check file None) = arguments ≡ codes "--check" ∷ file.now ∷ []
Names arguments (Check file (Some path)) = arguments ≡ codes "--check" ∷ file.now ∷ path.now ∷ []
Names arguments Version = arguments ≡ codes "--version" ∷ []
Names arguments Help = arguments ≡ codes "--help" ∷ []

-- The command of the arguments. A seed and a count are a draw, and so are arguments that name no
-- other command.
abbrev pub IsCommand : List (List ℕ) → Command → Type 0
IsCommand arguments Draw = (command : Command) → Names arguments command → (asked : Asked) × AsksFor arguments asked
IsCommand arguments other = Names arguments other
