-- Permutations of 0, 1, .., n - 1, called "arrangements" in names, and the lists of choices that
-- make each of them exactly once.
use Rattle.std.specs.Prelude.{◌≡◌, ℕ, ◌<◌, ◌≤◌, ◌-◌, ◌==◌, List, ◌++◌, length, slice_index, count_by, IsPermutation}
use Rattle.std.specs.List.{range_with_len}
use Rattle.nanorand_core.specs.shuffles.Shuffles.{arranged}

-- A list of choices is valid: the choice at each index is that index or a later one, and is below
-- the length of the list.
abbrev pub IsValid : List ℕ → Type 0
IsValid choices =
    (i : ℕ) → i < length choices
    → (i ≤ slice_index choices i) × (slice_index choices i < length choices)

-- The list 0, 1, .., n - 1.
abbrev pub rising : ℕ → List ℕ
rising n = range_with_len 0 n

-- The choices, extended to the length n: each further index is its own choice, so the swap there
-- moves nothing.
abbrev pub completed : ℕ → List ℕ → List ℕ
completed n choices = choices ++ range_with_len (length choices) (n - length choices)

-- The list is a permutation of 0, 1, .., n - 1, where n is its length.
abbrev pub IsArrangement : List ℕ → Type 0
IsArrangement order = IsPermutation (rising (length order)) order

-- The number of times that a number occurs in a list.
abbrev pub copies : ℕ → List ℕ → ℕ
copies number numbers = count_by (λ other. other == number) numbers

-- Every number occurs the same number of times in both lists.
abbrev pub HoldEquallyOften : List ℕ → List ℕ → Type 0
HoldEquallyOften xs ys = (number : ℕ) → copies number xs ≡ copies number ys

-- Each number below n occurs in the list exactly once.
abbrev pub HoldsEachOnce : ℕ → List ℕ → Type 0
HoldsEachOnce n numbers = (number : ℕ) → number < n → copies number numbers ≡ 1

-- Valid lists of n choices and permutations of 0, 1, .., n - 1 correspond one to one: a valid list
-- makes a permutation (`makes`), no other valid list makes the same one (`alone`), and each
-- permutation is made by some valid list (`each`).
pub record CorrespondsOneToOne (n : ℕ) : Type 0 where
  pub makes : (choices : List ℕ) → length choices ≡ n → IsValid choices
      → (length (arranged choices (rising n)) ≡ n) × IsArrangement (arranged choices (rising n))
  pub alone : (choices others : List ℕ) → length choices ≡ n → length others ≡ n → IsValid choices
      → IsValid others
      → arranged choices (rising n) ≡ arranged others (rising n) → choices ≡ others
  pub each : (order : List ℕ) → length order ≡ n → IsArrangement order
      → (choices : List ℕ) × (length choices ≡ n) × IsValid choices
      × (arranged choices (rising n) ≡ order)
