-- Samples without replacement, by Floyd's algorithm: different numbers below a count, in the order
-- in which they join the sample. In this file `count` is the size of the population, and `size`
-- that of the sample.
use Rattle.std.specs.Prelude.{◌≡◌, ◌≢◌, ℕ, zero, suc, ◌+◌, ◌-◌, ◌*◌, ◌<◌, ◌≤◌, ◌==◌, Bool, true, List, [], ◌∷◌, ◌++◌, Result, length, take}
use Rattle.std.specs.Prelude.{Ok, Err, sum_by, count_by, if◌then◌else◌}
use Rattle.std.specs.List.{All, AllPairs, list_any, list_all, range_with_len}
use Rattle.std.specs.declared.ops.Bound.TheVariants.{Included}
use Rattle.nanorand_core.specs.generators.Blocks.{Requests}
use Rattle.nanorand_core.specs.values.Draws.{unsigned_outcome}
use Rattle.nanorand_core.specs.declared.values.range.RangeError.{RangeError}

-- All numbers are below the limit, and they are all different.
abbrev pub DifferentBelow : ℕ → List ℕ → Type 0
DifferentBelow limit numbers = All (λ number. number < limit) numbers × AllPairs (λ number other. number ≢ other) numbers

-- Whether the list holds the number.
abbrev pub holds : ℕ → List ℕ → Bool
holds number numbers = list_any (λ other. other == number) numbers

-- The number that joins a sample after a draw from 0 to `last`: the number drawn, or `last` if the
-- sample already holds the number drawn.
abbrev pub joining : ℕ → ℕ → List ℕ → ℕ
joining last drawn sample = if holds drawn sample then last else drawn

-- The sample with that number appended.
abbrev pub joined : ℕ → ℕ → List ℕ → List ℕ
joined last drawn sample = sample ++ joining last drawn sample ∷ []

-- The outcome of a sampling: the result, the numbers that joined before it ended, and the state
-- that it leaves.
pub record Sample (G : Type 0) : Type 0 where
  pub answer : Result (Unit {0}) RangeError
  pub numbers : List ℕ
  pub state : G

module _ {G : Type 0} (requests : Requests G) where
  -- The result of drawing a number from 0 to `last`, and the state after the draw.
  unfoldable pub number_up_to : ℕ → G → Result ℕ RangeError × G
  number_up_to last g = unsigned_outcome requests 64 g (Included 0) (Included last)

  -- The sampling continues after a draw, and ends with the first error.
  abbrev pub goes_on : Result ℕ RangeError → List ℕ → G → (ℕ → Sample G) → Sample G
  goes_on (Ok drawn) sample g rest = rest drawn
  goes_on (Err refusal) sample g rest = record { answer = Err refusal; numbers = sample; state = g }

  -- `left` more draws. The first is from 0 to `last`, and each later one from a range that is
  -- longer by one number.
  abbrev pub sampled_from : ℕ → ℕ → G → List ℕ → Sample G
  sampled_from last zero g sample = record { answer = Ok tt; numbers = sample; state = g }
  sampled_from last (suc left) g sample =
      goes_on (number_up_to last g).0 sample (number_up_to last g).1
      (λ drawn. sampled_from (last + 1) left (number_up_to last g).1 (joined last drawn sample))

  -- A sample of `size` of the numbers below `count`. The last draw is from all of them.
  abbrev pub sampled : ℕ → ℕ → G → Sample G
  sampled size count g = sampled_from (count - size) size g []

  -- A sample with as many numbers as the list `places` has, of which the first `filled` are kept.
  abbrev pub extended : ℕ → G → List ℕ → ℕ → Sample G
  extended count g places filled =
      sampled_from (count - length places + filled) (length places - filled) g (take filled places)

-- The number of sequences of draws that lead from a sample to one that passes a test. A sequence
-- has `left` draws. The first is any number from 0 to `last`, and each later one is from a range
-- that is longer by one number.
abbrev pub rows_that : ℕ → ℕ → List ℕ → (List ℕ → Bool) → ℕ
rows_that last zero sample test = if test sample then 1 else 0
rows_that last (suc left) sample test =
    sum_by (λ drawn. rows_that (last + 1) left (joined last drawn sample) test)
    (range_with_len 0 (last + 1))

-- The number of sequences of draws that make a sample, of `size` of the numbers below `count`, that
-- passes a test.
abbrev pub samples_that : ℕ → ℕ → (List ℕ → Bool) → ℕ
samples_that size count test = rows_that (count - size) size [] test

-- Each number is in the same fraction of the samples: `size` / `count`.
abbrev pub NumbersAreFair : Type 0
NumbersAreFair =
    (size count number : ℕ) → size ≤ count → number < count
    → samples_that size count (holds number) * count
    ≡ size * samples_that size count (λ sample. true)

-- The product of the numbers from 1 to n.
abbrev pub factorial : ℕ → ℕ
factorial zero = 1
factorial (suc n) = suc n * factorial n

-- Each set of `size` of the numbers below `count` is the sample for the same number of sequences of
-- draws, 1 * 2 * .. * size. A set is given by a test. A sample has `size` different numbers, so if
-- all of them pass, they are the whole set.
abbrev pub SetsAreFair : Type 0
SetsAreFair =
    (size count : ℕ) (test : ℕ → Bool) → size ≤ count
    → count_by test (range_with_len 0 count) ≡ size
    → samples_that size count (list_all test) ≡ factorial size
