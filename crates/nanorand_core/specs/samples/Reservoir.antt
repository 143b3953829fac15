-- Reservoir sampling by Waterman's algorithm R: a sample of the items of an iterator. Items are
-- numbered from 0, and the sample is the list of the numbers of the items in its slots.
use Rattle.std.specs.Prelude.{◌≡◌, ℕ, zero, suc, ◌+◌, ◌-◌, ◌*◌, ◌<◌, ◌≤◌, Bool, true, List, length, min}
use Rattle.std.specs.Prelude.{Result, Ok, Err, slice_get, slice_set, sum_by, count_by, if◌then◌else◌}
use Rattle.std.specs.List.{filter_map, list_all, range_with_len}
use Rattle.nanorand_core.specs.generators.Blocks.{Requests}
use Rattle.nanorand_core.specs.samples.Samples.{factorial, holds, number_up_to}
use Rattle.nanorand_core.specs.declared.values.range.RangeError.{RangeError}

-- The outcome of a pass over the items: the answer, which is how many slots hold items or the error
-- that ended the pass; the numbers of the items in the slots; how many items were taken; and the
-- state that the pass leaves.
pub record Pass (G : Type 0) : Type 0 where
  pub answer : Result ℕ RangeError
  pub chosen : List ℕ
  pub taken : ℕ
  pub state : G

-- The items with these numbers.
abbrev pub items_at : {A : Type 0} → List A → List ℕ → List A
items_at items numbers = filter_map (slice_get items) numbers

-- A slot from 0 to i is drawn for item i. The item replaces the one in that slot, if there is such
-- a slot, and the pass continues. If the draw returns an error, the pass ends.
abbrev pub draws : {G : Type 0} → ℕ → Result ℕ RangeError → List ℕ → G → (List ℕ → Pass G) → Pass G
draws i (Ok slot) chosen g pass = pass (slice_set chosen slot i)
draws i (Err refusal) chosen g pass =
    record { answer = Err refusal; chosen = chosen; taken = i + 1; state = g }

module _ {G : Type 0} (requests : Requests G) where
  -- A pass over `left` more items, beginning with item i, given the sample so far.
  abbrev pub passed : ℕ → ℕ → G → List ℕ → Pass G
  passed i zero g chosen =
      record { answer = Ok (length chosen); chosen = chosen; taken = i; state = g }
  passed i (suc left) g chosen =
      draws i (number_up_to requests i g).0 chosen (number_up_to requests i g).1
      (λ sample. passed (i + 1) left (number_up_to requests i g).1 sample)

  -- A sample of `size` of `count` items. The first items fill the slots in order, and the pass runs
  -- over the others.
  abbrev pub reservoir : ℕ → ℕ → G → Pass G
  reservoir size count g =
      passed (min size count) (count - size) g (range_with_len 0 (min size count))

-- The number of sequences of draws that lead from a sample to one that passes a test. A sequence
-- has one draw for each of `left` items, beginning with item i. The draw for an item is any number
-- from 0 to the item's own number.
abbrev pub passes_that : ℕ → ℕ → List ℕ → (List ℕ → Bool) → ℕ
passes_that i zero chosen test = if test chosen then 1 else 0
passes_that i (suc left) chosen test =
    sum_by (λ slot. passes_that (i + 1) left (slice_set chosen slot i) test)
    (range_with_len 0 (i + 1))

-- The number of sequences of draws that make a sample, of `size` of `count` items, that passes a
-- test.
abbrev pub reservoirs_that : ℕ → ℕ → (List ℕ → Bool) → ℕ
reservoirs_that size count test = passes_that size (count - size) (range_with_len 0 size) test

-- Each item is in the same fraction of the samples: `size` / `count`.
abbrev pub ItemsAreFair : Type 0
ItemsAreFair =
    (size count item : ℕ) → size ≤ count → item < count
    → reservoirs_that size count (holds item) * count
    ≡ size * reservoirs_that size count (λ chosen. true)

-- Each set of `size` of `count` items is the sample for the same number of sequences of draws,
-- 1 * 2 * .. * (count - size). A set is given by a test. A sample has `size` different items, so if
-- all of them pass, they are the whole set.
abbrev pub ItemSetsAreFair : Type 0
ItemSetsAreFair =
    (size count : ℕ) (test : ℕ → Bool) → size ≤ count
    → count_by test (range_with_len 0 count) ≡ size
    → reservoirs_that size count (list_all test) ≡ factorial (count - size)
