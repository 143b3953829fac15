use Rattle.std.proofs.Common.{◌≡◌, ◌++◌, string_bytes, drop}
use Rattle.std.specs.List.{flat_map}
use Rattle.lots_record.specs.Quoted.{byte_text}
use Rattle.lots_record.proofs.quoted.push_bytes.Given as goal

abbrev pub invariant-loop-byte : goal.invariant-loop-byte
invariant-loop-byte g l =
    string_bytes l.text ++ flat_map byte_text (drop l.byte-index l.bytes) ≡ string_bytes l.fn.text ++ flat_map byte_text l.bytes
