-- Known answers: the number of the first argument that cannot be read.
use Rattle.std.specs.Prelude.{◌≡◌, ℕ, zero, suc, ◌+◌, ◌<◌, List, [], ◌∷◌, codes, refl}
use Rattle.std.proofs.Common.{arith}
use Rattle.hex.specs.Hex.{decode_pairs}
use Rattle.draw_core.specs.declared.command.Mode.TheVariants.{Plain}
use Rattle.draw_core.specs.declared.command.SeededGenerator.{SeededGenerator}
use Rattle.draw_core.specs.declared.command.SeededGenerator.TheVariants.{WyRand, Pcg64, ChaCha8, ChaCha12, ChaCha20}
use Rattle.draw_core.specs.declared.command.Generator.{Generator}
use Rattle.draw_core.specs.declared.command.Generator.TheVariants as generators
use Rattle.nanorand_replay.specs.declared.replay.Call.{Call}
use Rattle.nanorand_replay.specs.declared.replay.Call.TheVariants.{Gen}
use Rattle.nanorand_replay.specs.declared.replay.Kind.TheVariants as kinds
use Rattle.draw_core.specs.Requests.{IsRequest}
use Rattle.draw_core.specs.Arguments.{IsReadable, IsFirstUnreadable, IsSeed, IsCount, name_of_generator, generator_of}
use Rattle.known_answers.proofs.draw_core.BadRequests.{no_u9, no_range_of_u128, no_u8_to_300, no_u8_to_nothing}

-- No arguments: the first is missing.
no_name : (generator : Generator) → [] ≡ name_of_generator generator → ⊥
no_name generators.WyRand named = cc
no_name generators.Pcg64 named = cc
no_name generators.ChaCha8 named = cc
no_name generators.ChaCha12 named = cc
no_name generators.ChaCha20 named = cc

no_arguments : IsFirstUnreadable [] 1
no_arguments = record {
  counted = omega arith;
  there = omega arith;
  unreadable = λ readable. no_name readable.0 readable.1;
  first = λ index before. absurd (omega (arith, before));
}

-- The seed `d2` has one byte.
no_seed : (generator : SeededGenerator) → codes "wyrand" ≡ name_of_generator (generator_of generator) → IsSeed (codes "d2") generator → ⊥
no_seed (WyRand seed) named said = cc
no_seed (Pcg64 seed) named said = cc
no_seed (ChaCha8 seed) named said = cc
no_seed (ChaCha12 seed) named said = cc
no_seed (ChaCha20 seed) named said = cc

abbrev bad_seed : List (List ℕ)
bad_seed = codes "wyrand" ∷ codes "d2" ∷ codes "plain" ∷ codes "0" ∷ codes "u8" ∷ []

name_before : (index : ℕ) → index + 1 < 2 → IsReadable bad_seed index
name_before zero before = (generators.WyRand, refl)
name_before (suc index) before = absurd (omega (arith, before))

short_seed : IsFirstUnreadable bad_seed 2
short_seed = record {
  counted = omega arith;
  there = omega arith;
  unreadable = λ readable. no_seed readable.0 readable.1 readable.2;
  first = name_before;
}

-- Three readable arguments, followed by others.
abbrev behind_three : List (List ℕ) → List (List ℕ)
behind_three arguments = codes "wyrand" ∷ codes "d29b42879be2895f" ∷ codes "plain" ∷ arguments

three_before : (arguments : List (List ℕ)) (index : ℕ) → index < 3 → IsReadable (behind_three arguments) index
unfolding decode_pairs
three_before arguments zero within = (generators.WyRand, refl)
three_before arguments (suc zero) within = (WyRand (0xd2 ∷ 0x9b ∷ 0x42 ∷ 0x87 ∷ 0x9b ∷ 0xe2 ∷ 0x89 ∷ 0x5f ∷ []), refl, refl)
three_before arguments (suc (suc zero)) within = (Plain, refl)
three_before arguments (suc (suc (suc index))) within = absurd (omega (arith, within))

-- 1001 items are too many.
too_many : IsFirstUnreadable (behind_three (codes "1001" ∷ [])) 4
too_many = record {
  counted = omega arith;
  there = omega arith;
  unreadable = λ readable. omega (arith, readable.1.number.value, readable.1.small);
  first = λ index before. three_before (codes "1001" ∷ []) index (omega (arith, before));
}

no_items : IsCount (codes "0") 0
no_items = record { number = record { digits = (omega arith, (omega arith, tt)); value = refl; fits = omega arith }; small = omega arith }

four_before : (arguments : List (List ℕ)) (index : ℕ) → index < 4 → IsReadable (behind_three (codes "0" ∷ arguments)) index
four_before arguments (suc (suc (suc zero))) within = (0, no_items)
four_before arguments (suc (suc (suc (suc index)))) within = absurd (omega (arith, within))
four_before arguments index within = three_before (codes "0" ∷ arguments) index (omega (arith, within))

-- The first request cannot be read.
bad_request : (argument : List ℕ) → ((call : Call) → IsRequest argument call → ⊥) → IsFirstUnreadable (behind_three (codes "0" ∷ argument ∷ [])) 5
bad_request argument none = record {
  counted = omega arith;
  there = omega arith;
  unreadable = λ readable. none readable.0 readable.1;
  first = λ index before. four_before (argument ∷ []) index (omega (arith, before));
}

bound_too_great : IsFirstUnreadable (behind_three (codes "0" ∷ codes "u8:1..300" ∷ [])) 5
bound_too_great = bad_request (codes "u8:1..300") no_u8_to_300

bound_missing : IsFirstUnreadable (behind_three (codes "0" ∷ codes "u8:5..=" ∷ [])) 5
bound_missing = bad_request (codes "u8:5..=") no_u8_to_nothing

range_of_no_range_type : IsFirstUnreadable (behind_three (codes "0" ∷ codes "u128:1..2" ∷ [])) 5
range_of_no_range_type = bad_request (codes "u128:1..2") no_range_of_u128

-- A readable request, followed by one that cannot be read.
five_before : (index : ℕ) → index + 1 < 6 → IsReadable (behind_three (codes "0" ∷ codes "u8" ∷ codes "u9" ∷ [])) index
five_before (suc (suc (suc (suc zero)))) before = (Gen kinds.U8, refl)
five_before (suc (suc (suc (suc (suc index))))) before = absurd (omega (arith, before))
five_before index before = four_before (codes "u8" ∷ codes "u9" ∷ []) index (omega (arith, before))

second_request : IsFirstUnreadable (behind_three (codes "0" ∷ codes "u8" ∷ codes "u9" ∷ [])) 6
second_request = record {
  counted = omega arith;
  there = omega arith;
  unreadable = λ readable. no_u9 readable.0 readable.1;
  first = five_before;
}
