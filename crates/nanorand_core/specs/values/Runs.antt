-- Runs: how the words of N bits are divided among the numbers below a size, by the method of Daniel
-- Lemire ("Fast Random Integer Generation in an Interval", 2019). Each number has one run of
-- consecutive words, and all runs have the same length. The remaining words, fewer than half, name
-- no number: they are rejected.
use Rattle.std.specs.Prelude.{◌≡◌, ℕ, ◌+◌, ◌*◌, ◌/◌, ◌%◌, ◌^◌, ◌<◌, ◌≤◌, ◌⊎◌, ◌&&◌, Bool, Option, nat_le, nat_lt, find, count_by}
use Rattle.std.specs.Int.{div_ceil}
use Rattle.std.specs.List.{range_with_len}

-- The widths of words. A word of N bits is a random integer below 2^N.
abbrev pub IsWordWidth : ℕ → Type 0
IsWordWidth bits = (bits ≡ 8) ⊎ (bits ≡ 16) ⊎ (bits ≡ 32) ⊎ (bits ≡ 64)

-- The number of words that name each number: the length of a run.
abbrev pub quota : ℕ → ℕ → ℕ
quota bits size = 2 ^ bits / size

-- The number of words that name no number.
abbrev pub rejected : ℕ → ℕ → ℕ
rejected bits size = 2 ^ bits % size

-- The first word of the run of k, as the method of multiplication and rejection gives it.
abbrev pub first_word : ℕ → ℕ → ℕ → ℕ
first_word bits size k = div_ceil (k * 2 ^ bits + rejected bits size) size

-- The word names k: it lies in the run of k.
pub record Names (bits size word k : ℕ) : Type 0 where
  pub below : k < size
  pub after_first : first_word bits size k ≤ word
  pub before_end : word < first_word bits size k + quota bits size

-- Whether the word lies in the run of k.
abbrev pub is_in_run : ℕ → ℕ → ℕ → ℕ → Bool
is_in_run bits size word k =
    nat_le (first_word bits size k) word && nat_lt word (first_word bits size k + quota bits size)

-- The number that the word names, if it names one. Since runs do not overlap, there is at most one.
unfoldable pub named : ℕ → ℕ → ℕ → Option ℕ
named bits size word = find (is_in_run bits size word) (range_with_len 0 size)

-- The number of the 2^bits words that pass a test.
unfoldable pub words_that : ℕ → (ℕ → Bool) → ℕ
words_that bits test = count_by test (range_with_len 0 (2 ^ bits))
