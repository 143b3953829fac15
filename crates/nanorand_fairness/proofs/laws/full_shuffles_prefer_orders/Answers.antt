use Rattle.std.proofs.Common.{ℕ, List, length, nat_eq, replicate, refl, sym, ap, ◌∙◌, inr}
use Rattle.std.specs.Cmp.Lexicographic.{pointwise}
use Rattle.std.proofs.lemmas.List.{length-replicate}
use Rattle.nanorand_core.specs.shuffles.Shuffles.{arranged}
use Rattle.nanorand_core.specs.shuffles.Arrangements.{rising}
use Rattle.nanorand_fairness.specs.InTurn.{word_lists_that}
use Rattle.nanorand_fairness.proofs.lemmas.deals.FullShuffleLemmas.{no-multiple, full-sizes}
use Rattle.nanorand_fairness.proofs.lemmas.deals.EqualOrders.{equal-shares}
use Rattle.nanorand_fairness.proofs.laws.full_shuffles_prefer_orders.Goals as goal

pub returns-clause-shared : goal.returns-clause-shared
returns-clause-shared c = no-multiple

pub returns-clause-unequal : goal.returns-clause-unequal
returns-clause-unequal c = λ n m many equal. no-multiple n m many (equal-shares n m equal)

pub returns-clause-three : goal.returns-clause-three
returns-clause-three c = (refl, refl)

pub returns-clause-words : goal.returns-clause-words
returns-clause-words c = λ order fits.
    let n = length order in
    let makes = λ (choices : List ℕ). pointwise nat_eq (arranged choices (rising n)) order in
    ap (λ (m : ℕ). word_lists_that 64 m (replicate n n) makes) (sym (length-replicate n n))
    ∙ c.numbers_in_turn_are_fair.ensures.numbers 64 (replicate n n) makes (inr (inr (inr refl))) (full-sizes n 64 fits)
