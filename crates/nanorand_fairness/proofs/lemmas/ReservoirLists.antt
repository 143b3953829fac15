-- Reservoirs, counted over lists of draws.
use Rattle.std.proofs.Common.{◌≡◌, ℕ, zero, suc, ◌+◌, ◌-◌, ◌≤◌, ◌^◌, Bool, List, set, refl, arith}
use Rattle.std.specs.List.{range_with_len}
use Rattle.std.proofs.lemmas.List.FromFn.{get_or-range_with_len, length-range_with_len}
use Rattle.nanorand_core.specs.samples.Reservoir.{passes_that}
use Rattle.nanorand_fairness.specs.InTurn.{AreSizes, number_lists_that}
use Rattle.nanorand_fairness.specs.Reservoirs.{later_sizes, replaced_by}
use Rattle.nanorand_fairness.proofs.lemmas.Sums.{sum-terms}

-- a list of draws makes the same sample as a sequence of draws
pub reservoir-rows : (test : List ℕ → Bool) (left i : ℕ) (chosen : List ℕ)
    → number_lists_that (range_with_len (i + 1) left) (λ slots. test (replaced_by i slots chosen)) ≡ passes_that i left chosen test
reservoir-rows test zero i chosen = refl
reservoir-rows test (suc left) i chosen =
    sum-terms (λ slot. number_lists_that (range_with_len (i + 1 + 1) left) (λ slots. test (replaced_by (i + 1) slots (set chosen slot i))))
    (λ slot. passes_that (i + 1) left (set chosen slot i) test)
    (λ slot. reservoir-rows test left (i + 1) (set chosen slot i)) 0 (i + 1)

-- the sizes of its draws
pub later-sizes : (size count bits : ℕ) → count ≤ 2 ^ bits → AreSizes bits (later_sizes size count)
later-sizes size count bits fits = λ k d low.
    let long = length-range_with_len (size + 1) (count - size) in
    let at = get_or-range_with_len (size + 1) (count - size) k d (omega (arith, long)) in
    (omega (arith, at), omega (arith, at, long))
