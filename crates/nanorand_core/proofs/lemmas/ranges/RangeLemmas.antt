-- The numbers between two bounds, by their ranks, and draws from them.
use Rattle.std.proofs.Common.{◌≡◌, ℕ, zero, suc, ◌+◌, ◌-◌, ◌^◌, ◌<◌, ◌≤◌, ◌&&◌, Bool, true, false, List, [], ◌∷◌, Some}
use Rattle.std.proofs.Common.{None, Ok, Err, length, map, filter, nat_eq, nat_le, nat_lt, slice_get, refl, ◌∙◌, ap, inl}
use Rattle.std.proofs.Common.{inr, ◌⊎◌, arith}
use Rattle.std.specs.List.{range_with_len}
use Rattle.std.specs.declared.ops.Bound.{Bound}
use Rattle.std.proofs.lemmas.Bool.{cases_lt, le-leb, lt-leb, lt-ltb, le-ltb, and_from, and_left, and_right, ne_eqb}
use Rattle.std.proofs.lemmas.List.FromFn.{length-map-range_with_len, get_or-map-range_with_len}
use Rattle.std.proofs.lemmas.Option.{slice_get-get_or}
use Rattle.nanorand_core.specs.values.Range.{is_above, is_below, range_within}
use Rattle.nanorand_core.specs.values.Draws.{word_limit, number_drawn, left_after, value_drawn, left_by}
use Rattle.nanorand_core.specs.declared.values.range.RangeError.TheVariants.{Empty, Exhausted}

-- a filter of the numbers from rank a on that keeps exactly `kept` of them, from rank `first` on
module _ {T : Type 0} (p : T → Bool) (f : ℕ → T) where
  filter-none : (a n : ℕ) → ((k : ℕ) → a ≤ k → k < a + n → p (f k) ≡ false) → filter p (map f (range_with_len a n)) ≡ []
  filter-none a zero fails = refl
  filter-none a (suc n) fails =
      rw (fails a (omega arith) (omega arith))
      (filter-none (a + 1) n (λ k low high. fails k (omega arith) (omega arith)))

  filter-front : (a n kept : ℕ) → kept ≤ n → ((k : ℕ) → a ≤ k → k < a + kept → p (f k) ≡ true)
      → ((k : ℕ) → a + kept ≤ k → k < a + n → p (f k) ≡ false)
      → filter p (map f (range_with_len a n)) ≡ map f (range_with_len a kept)
  filter-front a n zero within passes fails = filter-none a n (λ k low high. fails k (omega arith) high)
  filter-front a zero (suc kept) within passes fails = absurd (omega arith)
  filter-front a (suc n) (suc kept) within passes fails =
      rw (passes a (omega arith) (omega arith))
      (ap (λ xs. f a ∷ xs) (filter-front (a + 1) n kept (omega arith)
      (λ k low high. passes k (omega arith) (omega arith)) (λ k low high. fails k (omega arith) (omega arith))))

  pub filter-middle : (a n skipped first kept : ℕ) → a + skipped ≡ first → skipped + kept ≤ n
      → ((k : ℕ) → k < first → p (f k) ≡ false)
      → ((k : ℕ) → first ≤ k → k < first + kept → p (f k) ≡ true)
      → ((k : ℕ) → first + kept ≤ k → k < a + n → p (f k) ≡ false)
      → filter p (map f (range_with_len a n)) ≡ map f (range_with_len first kept)
  filter-middle a n zero first kept place within early passes late =
      let start : a ≡ first = omega arith in
      rw (← start)
      (filter-front a n kept (omega arith) (λ k low high. passes k (omega arith) (omega arith)) (λ k low high. late k (omega arith) high))
  filter-middle a zero (suc skipped) first kept place within early passes late = absurd (omega arith)
  filter-middle a (suc n) (suc skipped) first kept place within early passes late =
      rw (early a (omega arith))
      (filter-middle (a + 1) n skipped first kept (omega arith) (omega arith) early passes
      (λ k low high. late k low (omega arith)))

-- `first` is the first rank within the low bound, and `end` is one past the last rank within the
-- high bound
module _ {T : Type 0} (le lt : T → T → Bool) (bits : ℕ) (number : ℕ → T) (low high : Bound T) (first end : ℕ)
    (above : (k : ℕ) → is_above le lt low (number k) ≡ nat_le first k)
    (below : (k : ℕ) → k < 2 ^ bits → is_below le lt high (number k) ≡ nat_lt k end)
    (within : end ≤ 2 ^ bits) where
  fails : (k : ℕ) → k < 2 ^ bits → (k < first) ⊎ (end ≤ k) → (is_above le lt low (number k) && is_below le lt high (number k)) ≡ false
  fails k in_type h = rw (above k, below k in_type)
      (elim h [
        | inl early ↦ and_left _ _ (lt-leb first k early)
        | inr late ↦ and_right _ _ (le-ltb k end late)
      ])

  passes : (k : ℕ) → k < 2 ^ bits → first ≤ k → k < end → (is_above le lt low (number k) && is_below le lt high (number k)) ≡ true
  passes k in_type from to = rw (above k, below k in_type) (and_from _ _ (le-leb first k from) (lt-ltb k end to))

  pub range-empty : end ≤ first → range_within le lt bits number low high ≡ []
  unfolding range_within
  range-empty crossed =
      filter-none (λ x. is_above le lt low x && is_below le lt high x) number 0 (2 ^ bits)
      (λ k from to. elim (cases_lt k first) [
        | inl early ↦ fails k (omega arith) (inl early)
        | inr late ↦ fails k (omega arith) (inr (omega arith))
      ])

  pub range-places : first < end → range_within le lt bits number low high ≡ map number (range_with_len first (end - first))
  unfolding range_within
  range-places some =
      filter-middle (λ x. is_above le lt low x && is_below le lt high x) number
      0 (2 ^ bits) first first (end - first) (omega arith) (omega arith)
      (λ k early. fails k (omega arith) (inl early))
      (λ k from to. passes k (omega arith) from (omega arith))
      (λ k late in_type. fails k (omega arith) (inr (omega arith)))

pub range-count : {T : Type 0} (number : ℕ → T) (first size : ℕ) (numbers : List T) → numbers ≡ map number (range_with_len first size) → length numbers ≡ size
range-count number first size numbers is = ap length is ∙ length-map-range_with_len number first size

-- the result of a draw from a list of numbers, known by its length and its elements
module _ {G T : Type 0} (word : G → ℕ) (after : G → G) (bits : ℕ) (numbers : List T) (g : G) where
  pub value-empty : numbers ≡ [] → Err Empty ≡ value_drawn word after bits numbers g
  unfolding value_drawn
  value-empty none = rw none refl

  pub left-empty : numbers ≡ [] → g ≡ left_by word after bits numbers g
  unfolding left_by
  left-empty none = rw none refl

module _ {G T : Type 0} (word : G → ℕ) (after : G → G) (bits : ℕ) (number : ℕ → T) (first size : ℕ) (some : 0 < size)
    (numbers : List T) (is : numbers ≡ map number (range_with_len first size)) (g : G) where
  count : length numbers ≡ size
  count = range-count number first size numbers is

  not_empty : nat_eq (length numbers) 0 ≡ false
  not_empty = rw count (ne_eqb size 0 (λ zero. omega arith))

  pub value-number : (k : ℕ) → k < size → Some k ≡ number_drawn word after word_limit bits size g
      → Ok (number (first + k)) ≡ value_drawn word after bits numbers g
  unfolding value_drawn
  value-number k low drawn =
      let at : slice_get numbers k ≡ Some (number (first + k)) =
      rw is (slice_get-get_or (map number (range_with_len first size)) k (number (first + k)) (omega (arith, length-map-range_with_len number first size))
      ∙ ap Some (get_or-map-range_with_len number first size k (first + k) (number (first + k)) low refl)) in
      rw (not_empty, count, ← drawn, at) refl

  pub value-exhausted : None ≡ number_drawn word after word_limit bits size g
      → Err Exhausted ≡ value_drawn word after bits numbers g
  unfolding value_drawn
  value-exhausted drawn = rw (not_empty, count, ← drawn) refl

  pub left-drawn : (h : G) → h ≡ left_after word after word_limit bits size g → h ≡ left_by word after bits numbers g
  unfolding left_by
  left-drawn h left = rw (not_empty, count) left
