-- Samples by Floyd's algorithm, made from the numbers that words draw in turn. `count` is the size
-- of the population, and `size` that of the sample.
use Rattle.std.specs.Prelude.{◌≡◌, ℕ, ◌+◌, ◌-◌, ◌*◌, ◌^◌, ◌≤◌, Bool, List, [], ◌∷◌, count_by}
use Rattle.std.specs.List.{list_all, range_with_len}
use Rattle.nanorand_core.specs.generators.Blocks.{Requests}
use Rattle.nanorand_core.specs.values.Draws.{word_limit, next_word, after_word, words_from}
use Rattle.nanorand_core.specs.samples.Samples.{factorial, joined, sampled}
use Rattle.nanorand_fairness.specs.InTurn.{quotas, numbers_in_turn, word_lists_that}

-- The sizes of the draws of a sample of `size` of `count` numbers: .., count - 1, count.
abbrev pub sample_sizes : ℕ → ℕ → List ℕ
sample_sizes size count = range_with_len (count - size + 1) size

-- The sample after draws with these results. The first result is a number from 0 to `last`.
abbrev pub sample_by : ℕ → List ℕ → List ℕ → List ℕ
sample_by last [] sample = sample
sample_by last (drawn ∷ draws) sample = sample_by (last + 1) draws (joined last drawn sample)

-- Each set of `size` of the numbers below `count` is sampled by the same number of lists of words:
-- size! times the product of the quotas. The set is given by a test.
abbrev pub SampledSetsAreFair : Type 0
SampledSetsAreFair =
    (size count : ℕ) (test : ℕ → Bool) → size ≤ count → count ≤ 2 ^ 64
    → count_by test (range_with_len 0 count) ≡ size
    → word_lists_that 64 size (sample_sizes size count)
    (λ draws. list_all test (sample_by (count - size) draws []))
    ≡ factorial size * quotas 64 (sample_sizes size count)

-- The same with rejections: any two sets are sampled by the same number of lists of n words.
abbrev pub NoSetIsPreferred : Type 0
NoSetIsPreferred =
    (size count n : ℕ) (test other : ℕ → Bool) → size ≤ count → count ≤ 2 ^ 64
    → count_by test (range_with_len 0 count) ≡ size
    → count_by other (range_with_len 0 count) ≡ size
    → let lists = word_lists_that 64 n (sample_sizes size count) in
    lists (λ draws. list_all test (sample_by (count - size) draws []))
    ≡ lists (λ draws. list_all other (sample_by (count - size) draws []))

-- The numbers of `sample` are those that follow from the numbers that its words draw in turn.
abbrev pub SamplesDrawInTurn : {G : Type 0} → Requests G → Type 0
SamplesDrawInTurn {G} requests =
    (size count : ℕ) (g : G) → size ≤ count → count ≤ 2 ^ 64
    → let words = words_from (next_word requests 64)
    (after_word requests 64) (word_limit * size) g in
    (sampled requests size count g).numbers
    ≡ sample_by (count - size) (numbers_in_turn 64 (sample_sizes size count) words) []
