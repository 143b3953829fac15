-- The places that a draw draws, and the entrants at them.
use Rattle.std.proofs.Common.{◌≡◌, ◌≢◌, ℕ, ◌<◌, ◌≤◌, List, length, map, take, slice_index_or, IsPermutation, sym, ◌∙◌}
use Rattle.std.proofs.Common.{ap, subst, arith, refl}
use Rattle.std.specs.List.{All, AllPairs}
use Rattle.std.proofs.lemmas.List.{length-take-le, get_or-take}
use Rattle.std.proofs.lemmas.List.FromFn.{length-range_with_len, fill_by_all}
use Rattle.std.proofs.lemmas.List.Sorted.{length_permutation}
use Rattle.nanorand_core.specs.shuffles.Arrangements.{rising, IsArrangement}
use Rattle.nanorand_fairness.specs.Deals.{IsDeal}
use Rattle.lots_core.specs.Draws.{drawn, places_drawn}
use Rattle.lots_core.proofs.lemmas.DrawLemmas.{drawn-map}

-- The first `count` numbers of a permutation of 0, 1, .. are a deal.
pub front-deal : ((order : List ℕ) → IsArrangement order
    → All (λ number. number < length order) order × AllPairs (λ number other. number ≢ other) order)
    → (count n : ℕ) (order : List ℕ) → count ≤ n → IsPermutation (rising n) order → IsDeal count n (take count order)
front-deal numbers count n order within h =
    let size : length order ≡ n = length_permutation (rising n) order h ∙ length-range_with_len 0 n in
    let arrangement = subst (λ m. IsPermutation (rising m) order) (sym size) h in
    let known = numbers order arrangement in
    let front : length (take count order) ≡ count = length-take-le count order (omega arith) in
    record {
      size = front;
      below = λ k d low. rw (get_or-take count order k d (omega arith))
          (omega (arith, size, known.0 k d (omega arith)));
      apart = λ j k d less low.
          rw (get_or-take count order j d (omega arith), get_or-take count order k d (omega arith))
          (known.1 j k d less (omega arith));
    }

-- A list is its indices, mapped to its items.
by-index : {T : Type 0} (items : List T) (other : T)
    → items ≡ map (λ place. slice_index_or items place other) (rising (length items))
by-index items other =
    fill_by_all (λ place. slice_index_or items place other) items (length items) other (omega arith) (λ k low. refl)

pub drawn-by-place : {T : Type 0} (seed : List ℕ) (count : ℕ) (entrants : List T) (other : T)
    → drawn seed count entrants
    ≡ map (λ place. slice_index_or entrants place other) (places_drawn seed count (length entrants))
drawn-by-place seed count entrants other =
    ap (drawn seed count) (by-index entrants other)
    ∙ drawn-map (λ place. slice_index_or entrants place other) seed count (rising (length entrants))
