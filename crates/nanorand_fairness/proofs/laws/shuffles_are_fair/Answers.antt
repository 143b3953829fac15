use Rattle.std.proofs.Common.{ℕ, Bool, List, ◌*◌, length, true, nat_eq, refl, sym, ap, ◌∙◌, inr, arith}
use Rattle.std.specs.List.{list_any}
use Rattle.std.specs.Cmp.Lexicographic.{pointwise}
use Rattle.nanorand_core.specs.values.Runs.{IsWordWidth}
use Rattle.nanorand_core.specs.shuffles.Shuffles.{arranged}
use Rattle.nanorand_core.specs.shuffles.Arrangements.{rising}
use Rattle.nanorand_fairness.specs.InTurn.{quotas, word_lists_that}
use Rattle.nanorand_fairness.specs.Deals.{choices_by, deal_sizes, dealt, deals_of}
use Rattle.nanorand_fairness.proofs.lemmas.deals.DealLemmas.{one_deal, deal-count, deal-sizes, order-deal, whole-deal}
use Rattle.nanorand_fairness.proofs.lemmas.deals.DealLists.{test-same}
use Rattle.nanorand_fairness.proofs.lemmas.NamedSums.{named-below}
use Rattle.nanorand_fairness.proofs.lemmas.deals.ExchangeDeals.{exchanges-deals}
use Rattle.nanorand_fairness.proofs.lemmas.deals.ShareLemmas.{index-share, whole-deals}
use Rattle.nanorand_fairness.proofs.lemmas.EvenLists.{share-lists}
use Rattle.nanorand_fairness.proofs.laws.shuffles_are_fair.Goals as goal

pub returns-clause-deals : goal.returns-clause-deals
returns-clause-deals c = λ k n deal within fits d.
    let sizes = deal_sizes k n in
    let deals : List ℕ → Bool = λ numbers. pointwise nat_eq (dealt k n numbers) deal in
    ap (λ (m : ℕ). word_lists_that 64 m sizes deals) (sym (deal-count k n))
    ∙ c.numbers_in_turn_are_fair.ensures.numbers 64 sizes deals (inr (inr (inr refl))) (deal-sizes k n 64 within fits)
    ∙ ap (λ (m : ℕ). m * quotas 64 sizes) (one_deal k n deal within d) ∙ omega arith

pub returns-clause-orders : goal.returns-clause-orders
returns-clause-orders c = λ order fits arrangement.
    let n = length order in
    test-same 64 n (deal_sizes n n) (λ numbers. pointwise nat_eq (arranged (choices_by 0 numbers) (rising n)) order)
    (λ numbers. pointwise nat_eq (dealt n n numbers) order) (λ numbers. ap (λ (xs : List ℕ). pointwise nat_eq xs order) (sym (whole-deal n numbers)))
    ∙ returns-clause-deals c n n order (omega arith) fits (order-deal order arrangement)

pub returns-clause-swaps : goal.returns-clause-swaps
returns-clause-swaps c = λ k n deal other within fits d o.
    let width : IsWordWidth 64 = inr (inr (inr refl)) in
    exchanges-deals width c.numbers_in_turn_are_fair.ensures.swaps
    (λ size word number some fits' is. named-below c.fairness.ensures.runs c.fairness.ensures.events 64 size width some fits' word number is)
    k n within fits deal other d o

pub returns-clause-shares : goal.returns-clause-shares
returns-clause-shares c = λ k n m index within fits low.
    share-lists c.numbers_in_turn_are_fair.ensures.rejections 64 m n k (deal_sizes k n)
    (λ numbers. list_any (λ item. nat_eq item index) (dealt k n numbers)) (λ numbers. true)
    (inr (inr (inr refl))) (deal-sizes k n 64 within fits) (index-share k n index within low)

pub returns-clause-parts : goal.returns-clause-parts
returns-clause-parts c = λ k n m deal within fits d.
    let sizes = deal_sizes k n in
    let deals : List ℕ → Bool = λ numbers. pointwise nat_eq (dealt k n numbers) deal in
    let all = λ (numbers : List ℕ). true in
    let one = one_deal k n deal within d in
    let many = whole-deals k n in
    let parts = share-lists c.numbers_in_turn_are_fair.ensures.rejections 64 m (deals_of k n) 1 sizes deals all
    (inr (inr (inr refl))) (deal-sizes k n 64 within fits) (ap (λ (j : ℕ). deals_of k n * j) one ∙ omega (arith, many)) in
    omega (arith, parts)
