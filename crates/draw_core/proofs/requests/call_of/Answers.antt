use Rattle.std.proofs.Common.{◌≡◌, ◌++◌, ◌∷◌, [], Some, sym, ap, ◌∙◌, append_assoc, lit<, arith}
use Rattle.std.proofs.lemmas.Grind.{common_steps}
use Rattle.std.proofs.lemmas.Str.Pattern.{split_parts}
use Rattle.draw_core.specs.Requests.{name_of, kind_of_span}
use Rattle.draw_core.proofs.requests.call_of.Goals as goal

pub returns-in_ok-span_of-in-Some-clause-found : goal.returns-in_ok-span_of-in-Some-clause-found
returns-in_ok-span_of-in-Some-clause-found c =
    let found = c.in_ok-span_of-in-Some.ensures.found in
    let range = c.in-Some.range.now in
    let named : c.in-Some.name.now ≡ name_of
    (kind_of_span c.in_ok-span_of-in-Some.field-0) = c.in_ok-kind_of-in-Some.ensures.found
    ∙ ap name_of (sym found.0) in
    let parts = (split_parts 58 c.args.text.now (Some (c.in-Some.name, c.in-Some.range)) c.in-Some.ensures.cases (lit< tt)).0 in
    (range, parts ∙ ap (λ name. name ++ 58 ∷ range) named ∙ sym (append_assoc _ (58 ∷ []) range), found.1)

-- In the goals below, `search` fails before Rattle tries `grind`.
pub returns-in_err-kind_of-in-Some-clause-only : goal.returns-in_err-kind_of-in-Some-clause-only
returns-in_err-kind_of-in-Some-clause-only c = grind (arith, common_steps)

pub returns-in_err-span_of-in-Some-clause-only : goal.returns-in_err-span_of-in-Some-clause-only
returns-in_err-span_of-in-Some-clause-only c = grind (arith, common_steps)

pub returns-in_err-kind_of-in-None-2-clause-only : goal.returns-in_err-kind_of-in-None-2-clause-only
returns-in_err-kind_of-in-None-2-clause-only c = grind (arith, common_steps)

pub returns-in_ok-span_of-in-Some-clause-only : goal.returns-in_ok-span_of-in-Some-clause-only
returns-in_ok-span_of-in-Some-clause-only c = grind (arith, common_steps)

pub returns-in-None-clause-only : goal.returns-in-None-clause-only
returns-in-None-clause-only c = grind (arith, common_steps)

pub returns-in_ok-kind_of-in-None-2-clause-only : goal.returns-in_ok-kind_of-in-None-2-clause-only
returns-in_ok-kind_of-in-None-2-clause-only c = grind (arith, common_steps)
