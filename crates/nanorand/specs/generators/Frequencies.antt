-- How often each word, a 64-bit number, occurs among the next words of a seed.
use Rattle.std.specs.Prelude.{◌≢◌, ◌==◌, Bool, ℕ, ◌+◌, ◌<◌, ◌^◌, count_by}
use Rattle.std.specs.List.{range_with_len}
use Rattle.nanorand.specs.generators.Halves.{folded}
use Rattle.nanorand.specs.generators.Pcg64 as pcg64
use Rattle.nanorand.specs.generators.WyRand as wyrand

-- The number of times that w occurs among the next n words of a seed of `Pcg64`.
unfoldable pub pcg64_word_count : ℕ → ℕ → ℕ → ℕ
pcg64_word_count n seed w =
    count_by (λ i. folded (pcg64.seed_after (i + 1) seed) == w) (range_with_len 0 n)

-- The number of the next n words of a seed of `Pcg64` that pass a test.
unfoldable pub pcg64_words_that : ℕ → ℕ → (ℕ → Bool) → ℕ
pcg64_words_that n seed test =
    count_by (λ i. test (folded (pcg64.seed_after (i + 1) seed))) (range_with_len 0 n)

-- The number of times that w occurs among the next n words of a seed of `WyRand`.
unfoldable pub wyrand_word_count : ℕ → ℕ → ℕ → ℕ
wyrand_word_count n seed w =
    count_by (λ i. wyrand.word (wyrand.seed_after (i + 1) seed) == w) (range_with_len 0 n)

-- The number of seeds of `WyRand` below n whose word is w.
unfoldable pub wyrand_seeds_with : ℕ → ℕ → ℕ
wyrand_seeds_with n w = count_by (λ seed. wyrand.word seed == w) (range_with_len 0 n)

-- Some 64-bit word is the word of no seed of `WyRand`, so no draw produces it.
abbrev pub SomeWordNeverComes : Type 0
SomeWordNeverComes =
    (w : ℕ) × (w < 2 ^ 64)
    × ((n seed : ℕ) → wyrand.word (wyrand.seed_after n seed) ≢ w)
