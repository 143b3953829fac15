-- Samples, counted over lists of draws.
use Rattle.std.proofs.Common.{◌≡◌, ℕ, zero, suc, ◌+◌, ◌-◌, ◌≤◌, ◌^◌, Bool, List, refl, arith}
use Rattle.std.specs.List.{range_with_len}
use Rattle.std.proofs.lemmas.List.FromFn.{get_or-range_with_len, length-range_with_len}
use Rattle.nanorand_core.specs.samples.Samples.{joined, rows_that}
use Rattle.nanorand_fairness.specs.InTurn.{AreSizes, number_lists_that}
use Rattle.nanorand_fairness.specs.Samples.{sample_by, sample_sizes}
use Rattle.nanorand_fairness.proofs.lemmas.Sums.{sum-terms}

-- a list of draws makes the same sample as a sequence of draws
pub sample-rows : (test : List ℕ → Bool) (left last : ℕ) (sample : List ℕ)
    → number_lists_that (range_with_len (last + 1) left) (λ draws. test (sample_by last draws sample)) ≡ rows_that last left sample test
sample-rows test zero last sample = refl
sample-rows test (suc left) last sample =
    sum-terms (λ drawn. number_lists_that (range_with_len (last + 1 + 1) left) (λ draws. test (sample_by (last + 1) draws (joined last drawn sample))))
    (λ drawn. rows_that (last + 1) left (joined last drawn sample) test)
    (λ drawn. sample-rows test left (last + 1) (joined last drawn sample)) 0 (last + 1)

-- the sizes of a sample's draws
pub sample-sizes : (size count bits : ℕ) → size ≤ count → count ≤ 2 ^ bits → AreSizes bits (sample_sizes size count)
sample-sizes size count bits within fits = λ k d low.
    let long = length-range_with_len (count - size + 1) size in
    let at = get_or-range_with_len (count - size + 1) size k d (omega (arith, long)) in
    (omega (arith, at), omega (arith, at, long))
