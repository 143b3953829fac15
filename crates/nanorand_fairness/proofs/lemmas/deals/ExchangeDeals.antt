-- Exchanges of two deals over every list of words.
use Rattle.std.proofs.Common.{◌≡◌, ℕ, ◌<◌, ◌≤◌, ◌^◌, List, length, map, Some, refl, sym, ◌∙◌, ap, subst}
use Rattle.std.proofs.lemmas.Slice.Zip.{AllZip-long}
use Rattle.nanorand_core.specs.values.Runs.{IsWordWidth, named}
use Rattle.nanorand_core.specs.shuffles.Arrangements.{rising}
use Rattle.nanorand_fairness.specs.InTurn.{Exchange, NoListOfNumbersIsPreferred, SwapsInTurn, numbers_in_turn}
use Rattle.nanorand_fairness.specs.InTurn.{deciding_in_turn, swapped_in_turn, swapped_numbers}
use Rattle.nanorand_fairness.specs.Deals.{deal_sizes, dealt, IsDeal, Deals, ExchangesDeals}
use Rattle.nanorand_fairness.proofs.lemmas.deals.StepLemmas.{AreBelow}
use Rattle.nanorand_fairness.proofs.lemmas.deals.FoundLemmas.{Finds}
use Rattle.nanorand_fairness.proofs.lemmas.deals.DealLemmas.{finds-deal, deal-sizes, deal-count}
use Rattle.nanorand_fairness.proofs.lemmas.deals.ExchangeLemmas.{exchanges_of, exchange-sizes, exchange-numbers, are-exchanges, drawn-below}

module _ (width : IsWordWidth 64) (swaps : NoListOfNumbersIsPreferred)
    (named-below : (size word k : ℕ) → 1 ≤ size → size ≤ 2 ^ 64 → named 64 size word ≡ Some k → k < size)
    (k n : ℕ) (within : k ≤ n) (fits : n ≤ 2 ^ 64) where
  -- the numbers drawn are below the sizes
  below : (words : List ℕ) → length (numbers_in_turn 64 (deal_sizes k n) words) ≡ k → AreBelow (numbers_in_turn 64 (deal_sizes k n) words) (deal_sizes k n)
  below words many = drawn-below 64 named-below (deal_sizes k n) words (deal-sizes k n 64 within fits) (many ∙ sym (deal-count k n))

  -- the deal of a list of words, in terms of the one list of numbers that deals it
  module _ (deal : List ℕ) (found : Finds k 0 n (rising n) deal) (words : List ℕ) where
    numbers-dealt : Deals k n deal (numbers_in_turn 64 (deal_sizes k n) words) → numbers_in_turn 64 (deal_sizes k n) words ≡ found.0
    numbers-dealt dealt-by = (found.2 (numbers_in_turn 64 (deal_sizes k n) words) (below words dealt-by.drawn)).0 dealt-by.is

  -- that one list of numbers deals the deal
  deals-it : (deal : List ℕ) (found : Finds k 0 n (rising n) deal) (numbers : List ℕ) → numbers ≡ found.0 → Deals k n deal numbers
  deals-it deal found numbers is = record {
    drawn = ap length is ∙ sym (AllZip-long (λ number size. number < size) found.0 (deal_sizes k n) found.1) ∙ deal-count k n;
    is = ap (dealt k n) is ∙ (found.2 found.0 found.1).1 refl;
  }

  module _ (deal other : List ℕ) (a : Finds k 0 n (rising n) deal) (b : Finds k 0 n (rising n) other) where
    abbrev exchanges : List Exchange
    exchanges = exchanges_of (deal_sizes k n) a.0 b.0

    same_sizes : map (λ e. e.size) exchanges ≡ deal_sizes k n
    same_sizes = exchange-sizes (deal_sizes k n) a.0 b.0 a.1 b.1

    swapped : (words : List ℕ) → SwapsInTurn 64 exchanges words
    swapped words = swaps 64 exchanges words width (are-exchanges 64 (deal_sizes k n) a.0 b.0 a.1 b.1 (deal-sizes k n 64 within fits))

    drawn-after : (words : List ℕ) → numbers_in_turn 64 (deal_sizes k n) (swapped_in_turn 64 exchanges words)
        ≡ swapped_numbers exchanges (numbers_in_turn 64 (deal_sizes k n) words)
    drawn-after words =
        subst (λ sizes. numbers_in_turn 64 sizes (swapped_in_turn 64 exchanges words) ≡ swapped_numbers exchanges (numbers_in_turn 64 sizes words))
        same_sizes (swapped words).numbers

    there : (words : List ℕ) → Deals k n deal (numbers_in_turn 64 (deal_sizes k n) words)
        → Deals k n other (numbers_in_turn 64 (deal_sizes k n) (swapped_in_turn 64 exchanges words))
    there words dealt-by =
        deals-it other b _
        (drawn-after words ∙ ap (swapped_numbers exchanges) (numbers-dealt deal a words dealt-by) ∙ (exchange-numbers (deal_sizes k n) a.0 b.0 a.1 b.1).0)

    and-back : (words : List ℕ) → Deals k n other (numbers_in_turn 64 (deal_sizes k n) (swapped_in_turn 64 exchanges words))
        → Deals k n deal (numbers_in_turn 64 (deal_sizes k n) words)
    and-back words dealt-by =
        deals-it deal a _
        (ap (numbers_in_turn 64 (deal_sizes k n)) (sym (swapped words).back)
        ∙ drawn-after (swapped_in_turn 64 exchanges words)
        ∙ ap (swapped_numbers exchanges) (numbers-dealt other b (swapped_in_turn 64 exchanges words) dealt-by)
        ∙ (exchange-numbers (deal_sizes k n) a.0 b.0 a.1 b.1).1)

    exchanges_deals : ExchangesDeals k n deal other (swapped_in_turn 64 exchanges)
    exchanges_deals = record {
      fits = λ words all. (swapped words).fits all;
      keeps_length = λ words. (swapped words).keeps_length;
      back = λ words. (swapped words).back;
      deciding = λ words.
          subst (λ sizes. deciding_in_turn 64 sizes (swapped_in_turn 64 exchanges words) ≡ deciding_in_turn 64 sizes words) same_sizes (swapped words).deciding;
      exchanged = λ words. (there words, and-back words);
    }

  pub exchanges-deals : (deal other : List ℕ) → IsDeal k n deal → IsDeal k n other
      → (swap : List ℕ → List ℕ) × ExchangesDeals k n deal other swap
  exchanges-deals deal other d o =
      let a = finds-deal k n deal within d in
      let b = finds-deal k n other within o in
      (swapped_in_turn 64 (exchanges deal other a b), exchanges_deals deal other a b)
