-- Reservoir samples, made from the numbers that words draw in turn.
use Rattle.std.specs.Prelude.{◌≡◌, ℕ, ◌+◌, ◌-◌, ◌*◌, ◌^◌, ◌<◌, ◌≤◌, Bool, true, List, [], ◌∷◌, count_by, slice_set}
use Rattle.std.specs.List.{list_all, range_with_len}
use Rattle.nanorand_core.specs.generators.Blocks.{Requests}
use Rattle.nanorand_core.specs.values.Draws.{word_limit, next_word, after_word, words_from}
use Rattle.nanorand_core.specs.samples.Samples.{factorial, holds}
use Rattle.nanorand_core.specs.samples.Reservoir.{reservoir}
use Rattle.nanorand_fairness.specs.InTurn.{quotas, numbers_in_turn, word_lists_that}

-- The sizes of the draws for all items but the first `size`: size + 1, size + 2, .., count.
abbrev pub later_sizes : ℕ → ℕ → List ℕ
later_sizes size count = range_with_len (size + 1) (count - size)

-- The sample after draws with these results. The first result is for item i.
abbrev pub replaced_by : ℕ → List ℕ → List ℕ → List ℕ
replaced_by i [] chosen = chosen
replaced_by i (slot ∷ slots) chosen = replaced_by (i + 1) slots (slice_set chosen slot i)

-- The sample of `size` items. The pass begins with the first `size` items in the slots.
abbrev pub reservoir_by : ℕ → List ℕ → List ℕ
reservoir_by size slots = replaced_by size slots (range_with_len 0 size)

-- Of all lists of n words that draw a whole sample, rejected words included, exactly the fraction
-- size / count has a given item in the sample.
abbrev pub SampledItemsAreFair : Type 0
SampledItemsAreFair =
    (size count n item : ℕ) → size ≤ count → count ≤ 2 ^ 64 → item < count
    → let lists = word_lists_that 64 n (later_sizes size count) in
    lists (λ slots. holds item (reservoir_by size slots)) * count ≡ size * lists (λ slots. true)

-- Each set of `size` of `count` items is sampled by the same number of lists of words:
-- (count - size)! times the product of the quotas. The set is given by a test.
abbrev pub SampledItemSetsAreFair : Type 0
SampledItemSetsAreFair =
    (size count : ℕ) (test : ℕ → Bool) → size ≤ count → count ≤ 2 ^ 64
    → count_by test (range_with_len 0 count) ≡ size
    → word_lists_that 64 (count - size) (later_sizes size count)
    (λ slots. list_all test (reservoir_by size slots))
    ≡ factorial (count - size) * quotas 64 (later_sizes size count)

-- The same with rejections: any two sets are sampled by the same number of lists of n words.
abbrev pub NoItemSetIsPreferred : Type 0
NoItemSetIsPreferred =
    (size count n : ℕ) (test other : ℕ → Bool) → size ≤ count → count ≤ 2 ^ 64
    → count_by test (range_with_len 0 count) ≡ size
    → count_by other (range_with_len 0 count) ≡ size
    → let lists = word_lists_that 64 n (later_sizes size count) in
    lists (λ slots. list_all test (reservoir_by size slots))
    ≡ lists (λ slots. list_all other (reservoir_by size slots))

-- The items that `reservoir` keeps are those that follow from the numbers that its words draw in
-- turn.
abbrev pub ReservoirsDrawInTurn : {G : Type 0} → Requests G → Type 0
ReservoirsDrawInTurn {G} requests =
    (size count : ℕ) (g : G) → size ≤ count → count ≤ 2 ^ 64
    → let words = words_from (next_word requests 64)
    (after_word requests 64) (word_limit * (count - size)) g in
    (reservoir requests size count g).chosen
    ≡ reservoir_by size (numbers_in_turn 64 (later_sizes size count) words)
