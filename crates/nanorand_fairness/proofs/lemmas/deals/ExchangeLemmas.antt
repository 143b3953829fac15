-- Exchanges that turn one list of numbers into another.
use Rattle.std.proofs.Common.{◌≡◌, ℕ, zero, suc, ◌<◌, ◌≤◌, ◌^◌, List, [], ◌∷◌, length, get_or, map, Option, Some, None, refl, ap, inl, inr, arith}
use Rattle.std.specs.List.{All}
use Rattle.std.proofs.lemmas.Bool.{cases_eq, eq-eqb, ne_eqb}
use Rattle.nanorand_core.specs.values.Runs.{named}
use Rattle.nanorand_core.specs.values.Draws.{word_limit}
use Rattle.nanorand_core.specs.values.Fairness.{swapped_number}
use Rattle.nanorand_fairness.specs.InTurn.{Exchange, IsExchange, AreSizes, by_word, numbers_from, swapped_numbers}
use Rattle.nanorand_fairness.proofs.lemmas.deals.StepLemmas.{AreBelow}

-- the exchange of each draw: its size, and the numbers of both lists
abbrev pub exchanges_of : List ℕ → List ℕ → List ℕ → List Exchange
exchanges_of [] ones others = []
exchanges_of (size ∷ sizes) [] others = []
exchanges_of (size ∷ sizes) (one ∷ ones) [] = []
exchanges_of (size ∷ sizes) (one ∷ ones) (other ∷ others) =
    record { size = size; one = one; other = other } ∷ exchanges_of sizes ones others

swapped-one : (j k : ℕ) → swapped_number j k j ≡ k
swapped-one j k = rw (eq-eqb j j refl) refl

swapped-other : (j k : ℕ) → swapped_number j k k ≡ j
swapped-other j k =
    elim (cases_eq k j) [
      | inl same ↦ rw (eq-eqb k j same) same
      | inr differ ↦ rw (ne_eqb k j differ, eq-eqb k k refl) refl
    ]

pub exchange-sizes : (sizes ones others : List ℕ) → AreBelow ones sizes → AreBelow others sizes
    → map (λ e. e.size) (exchanges_of sizes ones others) ≡ sizes
exchange-sizes [] ones others below below' = refl
exchange-sizes (size ∷ sizes) [] others below below' = absurd below
exchange-sizes (size ∷ sizes) (one ∷ ones) [] below below' = absurd below'
exchange-sizes (size ∷ sizes) (one ∷ ones) (other ∷ others) below below' =
    ap (λ (xs : List ℕ). size ∷ xs) (exchange-sizes sizes ones others below.1 below'.1)

pub exchange-numbers : (sizes ones others : List ℕ) → AreBelow ones sizes → AreBelow others sizes
    → (swapped_numbers (exchanges_of sizes ones others) ones ≡ others) × (swapped_numbers (exchanges_of sizes ones others) others ≡ ones)
exchange-numbers [] [] [] below below' = (refl, refl)
exchange-numbers [] (one ∷ ones) others below below' = absurd below
exchange-numbers [] [] (other ∷ others) below below' = absurd below'
exchange-numbers (size ∷ sizes) [] others below below' = absurd below
exchange-numbers (size ∷ sizes) (one ∷ ones) [] below below' = absurd below'
exchange-numbers (size ∷ sizes) (one ∷ ones) (other ∷ others) below below' =
    let rest = exchange-numbers sizes ones others below.1 below'.1 in
    (rw (swapped-one one other, rest.0) refl, rw (swapped-other one other, rest.1) refl)

-- the exchanges by index
exchange-at : (bits : ℕ) (sizes ones others : List ℕ) → AreBelow ones sizes → AreBelow others sizes
    → ((i : ℕ) (d : ℕ) → i < length sizes → get_or sizes i d ≤ 2 ^ bits)
    → (i : ℕ) (d : Exchange) → i < length (exchanges_of sizes ones others) → IsExchange bits (get_or (exchanges_of sizes ones others) i d)
exchange-at bits [] ones others below below' fits i d low = absurd (omega arith)
exchange-at bits (size ∷ sizes) [] others below below' fits i d low = absurd below
exchange-at bits (size ∷ sizes) (one ∷ ones) [] below below' fits i d low = absurd below'
exchange-at bits (size ∷ sizes) (one ∷ ones) (other ∷ others) below below' fits zero d low =
    record { fits = fits 0 0 (omega arith); one = below.0; other = below'.0 }
exchange-at bits (size ∷ sizes) (one ∷ ones) (other ∷ others) below below' fits (suc i) d low =
    exchange-at bits sizes ones others below.1 below'.1 (λ j e early. fits (suc j) e (omega (arith, early))) i d (omega (arith, low))

pub are-exchanges : (bits : ℕ) (sizes ones others : List ℕ) → AreBelow ones sizes → AreBelow others sizes → AreSizes bits sizes
    → All (IsExchange bits) (exchanges_of sizes ones others)
are-exchanges bits sizes ones others below below' fits =
    λ i d low. exchange-at bits sizes ones others below below' (λ j e early. (fits j e early).1) i d low

-- numbers that are drawn are below the sizes
module _ (bits : ℕ) (named-below : (size word k : ℕ) → 1 ≤ size → size ≤ 2 ^ bits → named bits size word ≡ Some k → k < size) where
  first : (size word : ℕ) (sizes later none : List ℕ) (o : Option ℕ) → named bits size word ≡ o → 1 ≤ size → size ≤ 2 ^ bits
      → (length later ≡ length sizes → AreBelow later sizes) → (length none ≡ suc (length sizes) → AreBelow none (size ∷ sizes))
      → length (by_word o (λ number. number ∷ later) none) ≡ suc (length sizes)
      → AreBelow (by_word o (λ number. number ∷ later) none) (size ∷ sizes)
  first size word sizes later none None is some fits if_later if_none whole = if_none whole
  first size word sizes later none (Some k) is some fits if_later if_none whole = (named-below size word k some fits is, if_later (omega (arith, whole)))

  drawn : (sizes : List ℕ) (left : ℕ) (words : List ℕ) → AreSizes bits sizes → length (numbers_from bits sizes left words) ≡ length sizes
      → AreBelow (numbers_from bits sizes left words) sizes
  drawn [] left words fits whole = tt
  drawn (size ∷ sizes) zero words fits whole = absurd (omega (arith, whole))
  drawn (size ∷ sizes) (suc left) [] fits whole = absurd (omega (arith, whole))
  drawn (size ∷ sizes) (suc left) (word ∷ words) fits whole =
      let here = fits 0 0 (omega arith) in
      first size word sizes (numbers_from bits sizes word_limit words) (numbers_from bits (size ∷ sizes) left words) (named bits size word) refl here.0 here.1
      (drawn sizes word_limit words (λ j d low. fits (suc j) d (omega (arith, low)))) (drawn (size ∷ sizes) left words fits) whole

  pub drawn-below : (sizes words : List ℕ) → AreSizes bits sizes → length (numbers_from bits sizes word_limit words) ≡ length sizes
      → AreBelow (numbers_from bits sizes word_limit words) sizes
  drawn-below sizes words fits whole = drawn sizes word_limit words fits whole
