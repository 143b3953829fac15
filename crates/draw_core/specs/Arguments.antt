-- What the command-line arguments ask for.
use Rattle.std.specs.Prelude.{◌≡◌, ℕ, zero, suc, ◌+◌, ◌-◌, ◌<◌, ◌≤◌, max, List, [], ◌∷◌, length, drop, map, codes, Ok, slice_index_or, String, string_bytes}
use Rattle.hex.specs.Hex.{decode_sized}
use Rattle.nanorand_replay.specs.declared.replay.Call.{Call}
use Rattle.draw_core.specs.declared.command.SeededGenerator.{SeededGenerator}
use Rattle.draw_core.specs.declared.command.SeededGenerator.TheVariants.{WyRand, Pcg64, ChaCha8, ChaCha12, ChaCha20}
use Rattle.draw_core.specs.declared.command.Generator.{Generator}
use Rattle.draw_core.specs.declared.command.Generator.TheVariants as generators
use Rattle.draw_core.specs.declared.command.Command.{Command}
use Rattle.draw_core.specs.declared.command.Mode.{Mode}
use Rattle.draw_core.specs.declared.command.Mode.TheVariants.{Plain, Buffered}
use Rattle.draw_core.specs.Numbers.{IsUnsigned}
use Rattle.draw_core.specs.Requests.{IsRequest}

-- The bytes of each argument.
abbrev pub texts : {A : Type 0} → List (String A) → List (List ℕ)
texts arguments = map string_bytes arguments

-- The argument at an index, counted from 0. A missing argument counts as an empty one, which is
-- unreadable at every index.
abbrev pub argument_at : List (List ℕ) → ℕ → List ℕ
argument_at arguments index = slice_index_or arguments index []

-- The first argument is the name of the generator.
abbrev pub name_of_generator : Generator → List ℕ
name_of_generator generators.WyRand = codes "wyrand"
name_of_generator generators.Pcg64 = codes "pcg64"
name_of_generator generators.ChaCha8 = codes "chacha8"
name_of_generator generators.ChaCha12 = codes "chacha12"
name_of_generator generators.ChaCha20 = codes "chacha20"

abbrev pub generator_of : SeededGenerator → Generator
generator_of (WyRand seed) = generators.WyRand
generator_of (Pcg64 seed) = generators.Pcg64
generator_of (ChaCha8 seed) = generators.ChaCha8
generator_of (ChaCha12 seed) = generators.ChaCha12
generator_of (ChaCha20 seed) = generators.ChaCha20

-- The second argument is the seed: two hexadecimal digits for each byte, in upper or lower case.
abbrev pub IsSeed : List ℕ → SeededGenerator → Type 0
IsSeed text (WyRand seed) = decode_sized text 8 ≡ Ok seed
IsSeed text (Pcg64 seed) = decode_sized text 16 ≡ Ok seed
IsSeed text (ChaCha8 seed) = decode_sized text 40 ≡ Ok seed
IsSeed text (ChaCha12 seed) = decode_sized text 40 ≡ Ok seed
IsSeed text (ChaCha20 seed) = decode_sized text 40 ≡ Ok seed

-- The third argument is the mode.
abbrev pub name_of_mode : Mode → List ℕ
name_of_mode Plain = codes "plain"
name_of_mode Buffered = codes "buffered"

-- The fourth argument is the number of items, at most 1000.
pub record IsCount (text : List ℕ) (count : ℕ) : Type 0 where
  pub number : IsUnsigned 64 text count
  pub small : count ≤ 1000

-- Each later argument is a request.
abbrev pub AreRequests : List (List ℕ) → List Call → Type 0
AreRequests [] [] = Unit {0}
AreRequests [] (call ∷ calls) = ⊥
AreRequests (text ∷ arguments) [] = ⊥
AreRequests (text ∷ arguments) (call ∷ calls) = IsRequest text call × AreRequests arguments calls

-- What a command line asks for.
pub record Asked : Type 0 where
  pub generator : SeededGenerator
  pub mode : Mode
  pub count : ℕ
  pub calls : List Call

-- What a command asks for, without the allocator of the command.
abbrev pub asked_by : {A : Type 0} → Command A → Asked
asked_by command = record {
  generator = command.generator;
  mode = command.mode;
  count = command.count;
  calls = command.calls.items;
}

-- The arguments ask for `asked`.
pub record AsksFor (arguments : List (List ℕ)) (asked : Asked) : Type 0 where
  pub generator : argument_at arguments 0 ≡ name_of_generator (generator_of asked.generator)
  pub seed : IsSeed (argument_at arguments 1) asked.generator
  pub mode : argument_at arguments 2 ≡ name_of_mode asked.mode
  pub count : IsCount (argument_at arguments 3) asked.count
  pub requests : AreRequests (drop 4 arguments) asked.calls

-- The argument at this index, counted from 0, can be read. The length of a seed depends on the
-- generator.
abbrev pub IsReadable : List (List ℕ) → ℕ → Type 0
IsReadable arguments zero =
    (generator : Generator) × (argument_at arguments 0 ≡ name_of_generator generator)
IsReadable arguments (suc zero) =
    (generator : SeededGenerator)
    × (argument_at arguments 0 ≡ name_of_generator (generator_of generator))
    × IsSeed (argument_at arguments 1) generator
IsReadable arguments (suc (suc zero)) =
    (mode : Mode) × (argument_at arguments 2 ≡ name_of_mode mode)
IsReadable arguments (suc (suc (suc zero))) =
    (count : ℕ) × IsCount (argument_at arguments 3) count
IsReadable arguments (suc (suc (suc (suc index)))) =
    (call : Call) × IsRequest (argument_at arguments (4 + index)) call

-- Argument k, counted from 1, is the first one that cannot be read. A missing argument among the
-- first four cannot be read.
pub record IsFirstUnreadable (arguments : List (List ℕ)) (k : ℕ) : Type 0 where
  pub counted : 0 < k
  pub there : k ≤ max 4 (length arguments)
  pub unreadable : IsReadable arguments (k - 1) → ⊥
  pub first : (index : ℕ) → index + 1 < k → IsReadable arguments index

-- Argument k, counted from 1, is the first request that cannot be read. The first request is
-- argument 5.
pub record FirstBadRequest (requests : List (List ℕ)) (k : ℕ) : Type 0 where
  pub index : ℕ
  pub number : k ≡ index + 5
  pub there : index < length requests
  pub unreadable : (call : Call) → IsRequest (argument_at requests index) call → ⊥
  pub first : (earlier : ℕ) → earlier < index →
      (call : Call) × IsRequest (argument_at requests earlier) call
