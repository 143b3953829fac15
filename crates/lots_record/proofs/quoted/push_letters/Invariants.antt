use Rattle.std.proofs.Common.{◌≡◌, ◌++◌, string_bytes}
use Rattle.std.specs.List.{flat_map}
use Rattle.lots_record.specs.Quoted.{letter_text}
use Rattle.lots_record.proofs.quoted.push_letters.Given as goal

abbrev pub invariant-loop-letter : goal.invariant-loop-letter
invariant-loop-letter g l =
    string_bytes l.text ≡ string_bytes l.fn.text ++ flat_map letter_text l.yielded
