-- A load balancer over servers of different strength: server i has the address `addresses[i]` and
-- the strength `strengths[i]`.
use Rattle.std.specs.Prelude.{◌≡◌, ℕ, ◌*◌, ◌<◌, ◌≤◌, ◌^◌, ◌==◌, List, length, sum, slice_index}
use Rattle.nanorand_core.specs.values.Runs.{IsWordWidth, words_that}
use Rattle.nanorand_core.specs.values.Fairness.{passes}
use Rattle.nanorand_core.specs.choices.Weighted.{item_named}

-- The address is that of a server whose strength is not 0.
abbrev pub IsServerOf : List ℕ → List ℕ → ℕ → Type 0
IsServerOf addresses strengths address =
    (i : ℕ) × (i < length addresses) × (slice_index addresses i ≡ address)
    × (0 < slice_index strengths i)

-- The number of words of `bits` bits that choose server i.
abbrev pub words_for : ℕ → List ℕ → ℕ → ℕ
words_for bits strengths i =
    words_that bits (λ word. passes (λ j. j == i) (item_named bits strengths word))

-- A server of n times the strength of another is chosen by n times as many words, for words of
-- every width and for all strengths whose sum is from 1 to 2^bits.
abbrev pub WordsFollowStrengths : Type 0
WordsFollowStrengths =
    (bits : ℕ) (strengths : List ℕ) (i j n : ℕ) → IsWordWidth bits → 1 ≤ sum strengths
    → sum strengths ≤ 2 ^ bits → i < length strengths → j < length strengths
    → slice_index strengths j ≡ n * slice_index strengths i
    → words_for bits strengths j ≡ n * words_for bits strengths i
