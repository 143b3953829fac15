use Rattle.std.proofs.lemmas.Grind.{common_steps}
use Rattle.std.proofs.Common.{rules, ◌≢◌, ◌+◌, ◌∷◌, ◌++◌, [], ap, arith, sym, ◌∙◌}
use Rattle.std.proofs.lemmas.List.{append_assoc, length_push}
use Rattle.std.proofs.lemmas.List.Elements.{All-push}
use Rattle.lots_core.specs.Lists.{lines_of}
use Rattle.lots_core.proofs.entrants.count_entrants.Goals as goal

-- The line is appended to the lines so far.
pub lines-preserved : goal.lines-preserved
lines-preserved c =
    let seen = c.lines.invariant.0 in
    let line = c.first_line.result.0.now in
    let after = c.first_line.result.1.now in
    let full : line ≢ [] = grind (arith, c.is_empty-in-lines.ensures, c.if-is_empty.false) in (
      (
        seen.0 ++ line ∷ [],
        seen.1 ∙ ap (λ lines. seen.0 ++ lines) c.first_line.ensures.lines
            ∙ sym (append_assoc seen.0 (line ∷ []) (lines_of after)),
        All-push (λ line. line ≢ []) seen.0 line seen.2 full,
        length_push seen.0 line ∙ ap (λ n. n + 1) seen.3,
      ),
      omega (arith, c.lines.invariant.1, c.first_line.ensures.shorter),
    )

pub returns-then-is_empty-clause-empty : goal.returns-then-is_empty-clause-empty
returns-then-is_empty-clause-empty c = grind (arith, common_steps)

pub lines-init : goal.lines-init
lines-init c = search rules

pub returns-clause-number : goal.returns-clause-number
returns-clause-number c = grind (arith, common_steps)
