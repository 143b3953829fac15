use Rattle.std.proofs.Common.{◌≡◌, ◌++◌, ◌+◌, string_bytes, drop, map}
use Rattle.lots_record.specs.Record.{entrant_lines}
use Rattle.lots_record.proofs.record.push_entrants.Given as goal

abbrev pub invariant-loop-entrant : goal.invariant-loop-entrant
invariant-loop-entrant g l =
    (l.number ≡ l.entrant-index)
    × (string_bytes l.text ++ entrant_lines (l.number + 1) (map (λ entrant. entrant.now) (drop l.entrant-index l.entrants))
    ≡ string_bytes l.fn.text ++ entrant_lines 1 (map (λ entrant. entrant.now) l.entrants))
