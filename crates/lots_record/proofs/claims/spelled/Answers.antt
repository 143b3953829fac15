use Rattle.std.proofs.Common.{◌≡◌, ◌≢◌, ◌++◌, ◌∷◌, ◌∙◌, [], ap, sym, subst, arith, append_assoc}
use Rattle.std.proofs.lemmas.List.{append-nil, nil_from_length}
use Rattle.lots_record.specs.Quoted.{Spells}
use Rattle.lots_record.proofs.SpellingLemmas.{spells_none, spells_some}
use Rattle.lots_record.proofs.claims.spelled.Goals as goal

pub returns-in_default-clause-found : goal.returns-in_default-clause-found
returns-in_default-clause-found g c = λ bytes spelled.
    let left = c.bytes.invariant bytes spelled in
    let some : c.bytes.rest.now ≢ [] = grind (arith, c.is_empty.ensures, c.bytes-test.true) in
    let first = spells_some left.0 c.bytes.rest.now left.2 some in
    absurd (c.in_default.ensures.found first.0 first.2 first.4)

pub bytes-preserved : goal.bytes-preserved
bytes-preserved g c = λ bytes spelled.
    let left = c.bytes.invariant bytes spelled in
    let some : c.bytes.rest.now ≢ [] = grind (arith, c.is_empty.ensures, c.bytes-test.true) in
    let first = spells_some left.0 c.bytes.rest.now left.2 some in
    let found = c.in-Some.ensures.found first.0 first.2 first.4 in
    let items = c.bytes.bytes.items in
    let all = left.1 ∙ ap (λ xs. items ++ xs) first.3 ∙ sym (append_assoc items (first.0 ∷ []) first.1)
    ∙ ap (λ byte. (items ++ byte ∷ []) ++ first.1) (sym found.0) ∙ ap (λ xs. xs ++ first.1) (sym c.in_ok-push.ensures.items) in
    (first.1, all, subst (Spells first.1) (sym found.1) first.5)

pub returns-clause-found : goal.returns-clause-found
returns-clause-found g c = λ bytes spelled.
    let left = c.bytes.invariant bytes spelled in
    let empty : c.bytes.rest.now ≡ [] = nil_from_length c.bytes.rest.now (grind (arith, c.is_empty.ensures, c.bytes-test.false)) in
    let none = spells_none left.0 (subst (Spells left.0) empty left.2) in
    sym (append-nil c.bytes.bytes.items) ∙ ap (λ xs. c.bytes.bytes.items ++ xs) (sym none) ∙ sym left.1
