-- The runs share the words equally.
use Rattle.std.proofs.Common.{◌≡◌, ℕ, ◌+◌, ◌-◌, ◌*◌, ◌^◌, ◌<◌, ◌≤◌, Bool, true, false, length, filter, count_by, sym, ◌∙◌, ap, arith}
use Rattle.std.specs.List.{range_with_len}
use Rattle.std.proofs.lemmas.Bool.{and_from, and_left, and_right, le-leb, lt-leb, lt-ltb, le-ltb}
use Rattle.std.proofs.lemmas.Nat.{mul-le, div-add-mod', mod_below, le-div}
use Rattle.std.proofs.lemmas.List.{map-id}
use Rattle.std.proofs.lemmas.List.FromFn.{length-range_with_len}
use Rattle.std.proofs.lemmas.List.Sums.{length-filter}
use Rattle.nanorand_core.specs.values.Runs.{is_in_run, quota, rejected, first_word, words_that}
use Rattle.nanorand_core.specs.values.Fairness.{SharesWords}
use Rattle.nanorand_core.proofs.lemmas.ranges.CeilingLemmas.{le_ceil}
use Rattle.nanorand_core.proofs.lemmas.ranges.RangeLemmas.{filter-middle}
use Rattle.nanorand_core.proofs.lemmas.ranges.RunLemmas.{Names-unique, named-Some, Some-named}

-- a run of q words starts at r = m - q at the latest, and so ends within the m words
room : (m s q t k r : ℕ) → q * s + t ≡ m → r + q ≡ m → k < s → k * m + t ≤ r * s
room m s q t k r split rest low =
    omega (arith, mul-le (k + 1) m s m (omega arith) (omega arith), ap (λ z. z * s) rest)

-- a test that passes exactly `kept` numbers from `first` on counts `kept`
count-middle : (p : ℕ → Bool) (n first kept : ℕ) → first + kept ≤ n
    → ((w : ℕ) → w < first → p w ≡ false)
    → ((w : ℕ) → first ≤ w → w < first + kept → p w ≡ true)
    → ((w : ℕ) → first + kept ≤ w → p w ≡ false)
    → count_by p (range_with_len 0 n) ≡ kept
count-middle p n first kept within early passes late =
    let same = map-id (range_with_len 0 n) in
    let also = map-id (range_with_len first kept) in
    let kept_words = filter-middle p (λ w. w) 0 n first first kept (omega arith) (omega arith) early passes (λ w past _. late w past) in
    let words : filter p (range_with_len 0 n) ≡ range_with_len first kept = rw (same, also) at kept_words in
    sym (length-filter p (range_with_len 0 n)) ∙ ap length words ∙ length-range_with_len first kept

module _ (bits size : ℕ) (some : 1 ≤ size) (fits : size ≤ 2 ^ bits) where
  whole : quota bits size * size + rejected bits size ≡ 2 ^ bits
  whole = div-add-mod' (2 ^ bits) size

  fewer : rejected bits size < size
  fewer = mod_below (2 ^ bits) size some

  quota_some : 1 ≤ quota bits size
  quota_some = le-div 1 (2 ^ bits) size some (omega arith)

  -- a run ends within the words
  run-within : (k : ℕ) → k < size → first_word bits size k + quota bits size ≤ 2 ^ bits
  run-within k low =
      let shorter : quota bits size * 1 ≤ quota bits size * size = mul-le _ _ _ _ (omega arith) some in
      let r : ℕ = 2 ^ bits - quota bits size in
      let rest : r + quota bits size ≡ 2 ^ bits = omega (arith, whole, shorter) in
      let start : first_word bits size k ≤ r =
      le_ceil (k * 2 ^ bits + rejected bits size) size some r
      (room (2 ^ bits) size (quota bits size) (rejected bits size) k r whole rest low) in
      omega arith

  run-count : (k : ℕ) → k < size → words_that bits (λ word. is_in_run bits size word k) ≡ quota bits size
  unfolding words_that
  run-count k low =
      count-middle (λ word. is_in_run bits size word k) (2 ^ bits) (first_word bits size k) (quota bits size) (run-within k low)
      (λ w early. and_left _ _ (lt-leb _ _ early))
      (λ w from to. and_from _ _ (le-leb _ _ from) (lt-ltb _ _ to))
      (λ w past. and_right _ _ (le-ltb _ _ past))

  pub shares : SharesWords bits size
  shares = record {
    within = run-within;
    apart = λ word j k h i. Names-unique bits size word j k some h i;
    counted = run-count;
    naming = λ word k. (λ is. Some-named bits size word k is, λ names. named-Some bits size word k (omega arith) names);
    some = quota_some;
    all = omega (arith, whole);
    few = omega (arith, whole, fewer, mul-le 1 size (quota bits size) size quota_some (omega arith));
  }
