use Rattle.std.proofs.Common.{◌≡◌, ◌++◌, drop}
use Rattle.std.specs.Prelude.{string_bytes}
use Rattle.std.specs.List.{flat_map}
use Rattle.draw_core.specs.Text.{line_of}
use Rattle.draw_core.proofs.text.push_answers.Given as goal

abbrev pub invariant-loop-answer : goal.invariant-loop-answer
invariant-loop-answer g l =
    string_bytes l.text ++ flat_map line_of (drop l.answer-index l.answers) ≡ string_bytes l.fn.text ++ flat_map line_of l.answers
