-- Shuffles whose partners are drawn from all indices, as `shuffle_full` draws them. They are
-- biased: some orders are more frequent than others.
use Rattle.std.specs.Prelude.{◌≡◌, ◌≢◌, ℕ, ◌*◌, ◌^◌, ◌≤◌, ◌==◌, List, [], ◌∷◌, length, replicate}
use Rattle.std.specs.Cmp.Lexicographic.{pointwise}
use Rattle.nanorand_core.specs.samples.Samples.{factorial}
use Rattle.nanorand_core.specs.shuffles.Arrangements.{rising, IsArrangement}
use Rattle.nanorand_core.specs.shuffles.Shuffles.{arranged}
use Rattle.nanorand_fairness.specs.InTurn.{number_lists_that, quotas, word_lists_that}

-- The number of lists of n choices that make this order of n items, where each choice is any of the
-- n indices.
abbrev pub choices_making : List ℕ → ℕ
choices_making order =
    let n = length order in
    number_lists_that (replicate n n)
    (λ choices. pointwise ◌==◌ (arranged choices (rising n)) order)

-- For three items or more, the n^n lists of choices cannot be divided equally among the n! orders:
-- n! does not divide n^n.
abbrev pub OrdersCannotShare : Type 0
OrdersCannotShare = (n m : ℕ) → 3 ≤ n → n ^ n ≢ m * factorial n

-- So not all orders of n items are made by the same number of lists of choices.
abbrev pub OrdersAreUnequal : Type 0
OrdersAreUnequal =
    (n m : ℕ) → 3 ≤ n
    → ¬ ((order : List ℕ) → length order ≡ n → IsArrangement order → choices_making order ≡ m)

-- Of the 27 lists of choices of three items, five exchange the first two items, and four leave all
-- items in place.
abbrev pub ThreeItemsPreferOrders : Type 0
ThreeItemsPreferOrders =
    (choices_making (1 ∷ 0 ∷ 2 ∷ []) ≡ 5) × (choices_making (0 ∷ 1 ∷ 2 ∷ []) ≡ 4)

-- Words have the same bias as choices: each list of choices is drawn by the same number of lists of
-- words.
abbrev pub WordsPreferOrders : Type 0
WordsPreferOrders =
    (order : List ℕ) → let n = length order in n ≤ 2 ^ 64
    → word_lists_that 64 n (replicate n n)
    (λ choices. pointwise ◌==◌ (arranged choices (rising n)) order)
    ≡ choices_making order * quotas 64 (replicate n n)
