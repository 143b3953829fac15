-- The numbers of an unsigned range, without going through all numbers of its type.
use Rattle.std.proofs.Common.{◌≡◌, ℕ, zero, suc, ◌+◌, ◌-◌, ◌^◌, ◌<◌, ◌≤◌, ◌&&◌, Bool, List, ◌∷◌, map, filter, max, min}
use Rattle.std.proofs.Common.{nat_le, nat_lt, refl, ap, ◌∙◌, inl, inr, arith}
use Rattle.std.specs.List.{range_with_len}
use Rattle.std.proofs.lemmas.Bool.{cases_lt, le-leb, lt-leb, lt-ltb, le-ltb}
use Rattle.std.specs.declared.ops.Bound.TheVariants.{Included, Excluded}
use Rattle.nanorand_core.specs.values.Range.{unsigned_number, unsigned_range, range_within}

module _ (first end : ℕ) (below : ℕ → Bool) (is : (k : ℕ) → below k ≡ nat_lt k end) where
  -- of the n numbers from a on, those from `first` to `end` - 1
  kept : (a n : ℕ) → filter (λ k. nat_le first k && below k) (map unsigned_number (range_with_len a n))
      ≡ range_with_len (max a first) (min (a + n) end - max a first)
  kept a zero = let none : min (a + 0) end - max a first ≡ 0 = omega arith in rw none refl
  kept a (suc n) =
      let later = kept (a + 1) n in
      elim (cases_lt a first) [
        | inl early ↦
            let start : max (a + 1) first ≡ max a first = omega arith in
            let stop : a + 1 + n ≡ a + suc n = omega arith in
            rw (lt-leb first a early, ← start, ← stop) later
        | inr from ↦ elim (cases_lt a end) [
          | inl to ↦
              let start : max (a + 1) first ≡ a + 1 = omega arith in
              let here : max a first ≡ a = omega arith in
              let size : min (a + suc n) end - a ≡ suc (min (a + 1 + n) end - (a + 1)) = omega arith in
              let rest = rw start at later in
              rw (le-leb first a from, is a, lt-ltb a end to, here, size) (ap (λ (numbers : List ℕ). a ∷ numbers) rest)
          | inr past ↦
              let none : min (a + suc n) end - max a first ≡ 0 = omega arith in
              let after : min (a + 1 + n) end - max (a + 1) first ≡ 0 = omega arith in
              let rest = rw after at later in
              rw (le-leb first a from, is a, le-ltb a end past, none) rest
        ]
      ]

  -- of all numbers below the limit
  all_kept : (limit : ℕ) → end ≤ limit → filter (λ k. nat_le first k && below k) (map unsigned_number (range_with_len 0 limit))
      ≡ range_with_len first (end - first)
  all_kept limit fits =
      let start : max 0 first ≡ first = omega arith in
      let stop : min (0 + limit) end ≡ end = omega arith in
      let all = kept 0 limit in
      rw (start, stop) at all

not_above : (last k : ℕ) → nat_le k last ≡ nat_lt k (last + 1)
not_above last k =
    elim (cases_lt k (last + 1)) [
      | inl low ↦ rw (le-leb k last (omega arith), lt-ltb k (last + 1) low) refl
      | inr high ↦ rw (lt-leb k last (omega arith), le-ltb k (last + 1) high) refl
    ]

module _ (bits : ℕ) where
  pub numbers_between : (a b : ℕ) → b ≤ 2 ^ bits → unsigned_range bits (Included a) (Excluded b) ≡ range_with_len a (b - a)
  unfolding range_within
  numbers_between a b fits = all_kept a b (λ k. nat_lt k b) (λ k. refl) (2 ^ bits) fits

  pub numbers_up_to : (last : ℕ) → last < 2 ^ bits → unsigned_range bits (Included 0) (Included last) ≡ range_with_len 0 (last + 1)
  unfolding range_within
  numbers_up_to last fits =
      let size : last + 1 - 0 ≡ last + 1 = omega arith in
      all_kept 0 (last + 1) (λ k. nat_le k last) (not_above last) (2 ^ bits) (omega arith) ∙ rw size refl
