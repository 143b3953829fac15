-- Exactly one list of numbers deals a deal.
use Rattle.std.proofs.Common.{◌≡◌, ◌≢◌, ℕ, zero, suc, ◌+◌, ◌-◌, ◌<◌, ◌≤◌, ◌↔◌, ◌⊎◌, List, [], ◌∷◌, length, get_or, take}
use Rattle.std.proofs.Common.{drop, swap, refl, sym, ◌∙◌, ap, subst, inl, inr, arith}
use Rattle.std.proofs.lemmas.Bool.{cases_eq, cases_lt}
use Rattle.std.proofs.Math.Seq.{drop-cons}
use Rattle.std.proofs.lemmas.List.Edits.{length-swap, swapped_from_swap}
use Rattle.nanorand_fairness.proofs.lemmas.deals.OneList.{head, tail}
use Rattle.nanorand_fairness.proofs.lemmas.deals.StepLemmas.{AreBelow, sizes_from, after_steps, steps-keep}

-- No item occurs twice.
abbrev pub AreDifferent : List ℕ → Type 0
AreDifferent items =
    (j k : ℕ) → j < length items → k < length items → get_or items j 0 ≡ get_or items k 0 → j ≡ k

-- Each wanted item is at index i or later.
abbrev pub AreFrom : ℕ → List ℕ → List ℕ → Type 0
AreFrom i items wanted =
    (m : ℕ) → m < length wanted → (q : ℕ) × (i ≤ q) × (q < length items) × (get_or items q 0 ≡ get_or wanted m 0)

-- one swap
module _ (items : List ℕ) (i p : ℕ) (low : i < length items) (high : p < length items) where
  swapped : (get_or (swap items i p) i 0 ≡ get_or items p 0) × (get_or (swap items i p) p 0 ≡ get_or items i 0)
      × ((m : ℕ) → (m ≡ i → ⊥) → (m ≡ p → ⊥) → get_or (swap items i p) m 0 ≡ get_or items m 0)
  swapped = swapped_from_swap items (swap items i p) i p 0 low high refl

  -- where an item was before the swap
  was : (j : ℕ) → (q : ℕ) × (get_or (swap items i p) j 0 ≡ get_or items q 0)
      × (((j ≡ i) × (q ≡ p)) ⊎ ((j ≡ p) × (q ≡ i)) ⊎ ((j ≢ i) × (j ≢ p) × (q ≡ j)))
  was j =
      elim (cases_eq j i) [
        | inl first ↦ (p, rw first swapped.0, inl (first, refl))
        | inr not_first ↦ elim (cases_eq j p) [
          | inl second ↦ (i, rw second swapped.1, inr (inl (second, refl)))
          | inr neither ↦ (j, swapped.2 j not_first neither, inr (inr (not_first, neither, refl)))
        ]
      ]

  -- items stay different
  pub swap-different : AreDifferent items → AreDifferent (swap items i p)
  swap-different differ j k j_low k_low same =
      let size = length-swap items i p in
      let one = was j in
      let other = was k in
      let equal : get_or items one.0 0 ≡ get_or items other.0 0 = sym one.1 ∙ same ∙ other.1 in
      let place : one.0 ≡ other.0 = differ one.0 other.0 (within j one (omega arith)) (within k other (omega arith)) equal in
      back j k one other place
    where
      Was : ℕ → Type 0
      Was j = (q : ℕ) × (get_or (swap items i p) j 0 ≡ get_or items q 0)
          × (((j ≡ i) × (q ≡ p)) ⊎ ((j ≡ p) × (q ≡ i)) ⊎ ((j ≢ i) × (j ≢ p) × (q ≡ j)))

      within : (j : ℕ) (w : Was j) → j < length items → w.0 < length items
      within j w low' = elim w.2 [ inl first ↦ omega arith | inr (inl second) ↦ omega arith | inr (inr neither) ↦ omega arith ]

      back : (j k : ℕ) (one : Was j) (other : Was k) → one.0 ≡ other.0 → j ≡ k
      back j k one other place =
          elim one.2 [
            | inl first ↦ elim other.2 [
              | inl first' ↦ omega arith
              | inr (inl second') ↦ omega arith
              | inr (inr neither') ↦ absurd (neither'.1 (omega arith))
            ]
            | inr (inl second) ↦ elim other.2 [
              | inl first' ↦ omega arith
              | inr (inl second') ↦ omega arith
              | inr (inr neither') ↦ absurd (neither'.0 (omega arith))
            ]
            | inr (inr neither) ↦ elim other.2 [
              | inl first' ↦ absurd (neither.1 (omega arith))
              | inr (inl second') ↦ absurd (neither.0 (omega arith))
              | inr (inr neither') ↦ omega arith
            ]
          ]

  -- an item from index i on, other than the one at p, is at i + 1 or later after the swap
  pub swap-from : i ≤ p → (q : ℕ) → i ≤ q → q < length items → (q ≢ p)
      → (r : ℕ) × (i + 1 ≤ r) × (r < length (swap items i p)) × (get_or (swap items i p) r 0 ≡ get_or items q 0)
  swap-from later q from to other =
      let size = length-swap items i p in
      elim (cases_eq q i) [
        | inl first ↦ (p, (let apart : (i ≡ p) → ⊥ = λ same. other (omega arith) in next i p later apart), omega arith, rw first swapped.1)
        | inr not_first ↦ (q, next i q from (λ same. not_first (sym same)), omega arith, swapped.2 q not_first other)
      ]
    where
      next : (a b : ℕ) → a ≤ b → ((a ≡ b) → ⊥) → a + 1 ≤ b
      next a b le apart = elim (cases_lt a b) [ inl less ↦ omega arith | inr not_less ↦ absurd (apart (omega arith)) ]

-- the items after the steps, from index i on, are the item at i and those from i + 1 on
module _ (k i n t : ℕ) (ts items : List ℕ) (below : AreBelow (t ∷ ts) (sizes_from i (suc k) n)) (size : length items ≡ n) (room : i + suc k ≤ n) where
  pub first-dealt : drop i (after_steps i (t ∷ ts) items) ≡ get_or items (i + t) 0 ∷ drop (i + 1) (after_steps i (t ∷ ts) items)
  first-dealt =
      let kept = steps-keep k (i + 1) n ts (swap items i (i + t)) below.1 (length-swap items i (i + t) ∙ size) (omega (arith, room)) in
      let swapped' = swapped items i (i + t) (omega (arith, size)) (omega (arith, below.0, size)) in
      let next : suc i ≡ i + 1 = omega arith in
      drop-cons (after_steps i (t ∷ ts) items) i 0 (omega (arith, kept.0))
      ∙ ap (λ (x : ℕ). x ∷ drop (suc i) (after_steps i (t ∷ ts) items)) (kept.1 i (omega arith) ∙ swapped'.0)
      ∙ ap (λ (j : ℕ). get_or items (i + t) 0 ∷ drop j (after_steps i (t ∷ ts) items)) next

-- Exactly one list of numbers deals the wanted items.
abbrev pub Finds : ℕ → ℕ → ℕ → List ℕ → List ℕ → Type 0
Finds k i n items wanted =
    (alone : List ℕ) × AreBelow alone (sizes_from i k n)
    × ((numbers : List ℕ) → AreBelow numbers (sizes_from i k n) → (take k (drop i (after_steps i numbers items)) ≡ wanted) ↔ (numbers ≡ alone))

-- one step: the first wanted item is at i + t0
module _ (k i n t0 w : ℕ) (items ws : List ℕ) (size : length items ≡ n) (room : i + suc k ≤ n) (differ : AreDifferent items)
    (high : i + t0 < length items) (wanted-first : get_or items (i + t0) 0 ≡ w) where
  -- the other wanted items are at i + 1 or later after the step
  others-from : AreDifferent (w ∷ ws) → AreFrom i items (w ∷ ws) → AreFrom (i + 1) (swap items i (i + t0)) ws
  others-from apart from m in_ws =
      let at = from (suc m) (omega (arith, in_ws)) in
      let other : (at.0 ≡ i + t0) → ⊥ = λ same.
      let clash = apart 0 (suc m) (omega arith) (omega (arith, in_ws)) (sym wanted-first ∙ ap (λ (j : ℕ). get_or items j 0) (sym same) ∙ at.3) in
      absurd (omega (arith, clash)) in
      let moved = swap-from items i (i + t0) (omega (arith, size, room)) high (omega arith) at.0 at.1 at.2 other in
      (moved.0, moved.1, moved.2, moved.3 ∙ at.3)

  dealt-first : (t : ℕ) (ts : List ℕ) → AreBelow (t ∷ ts) (sizes_from i (suc k) n)
      → take (suc k) (drop i (after_steps i (t ∷ ts) items)) ≡ get_or items (i + t) 0 ∷ take k (drop (i + 1) (after_steps i (t ∷ ts) items))
  dealt-first t ts below = ap (take (suc k)) (first-dealt k i n t ts items below size room)

  only : (rest : Finds k (i + 1) n (swap items i (i + t0)) ws) (numbers : List ℕ) → AreBelow numbers (sizes_from i (suc k) n)
      → (take (suc k) (drop i (after_steps i numbers items)) ≡ w ∷ ws) ↔ (numbers ≡ t0 ∷ rest.0)
  only rest [] below = absurd below
  only rest (t ∷ ts) below = (dealt-by, deals-it)
    where
      dealt-by : take (suc k) (drop i (after_steps i (t ∷ ts) items)) ≡ w ∷ ws → t ∷ ts ≡ t0 ∷ rest.0
      dealt-by is =
          let whole = sym (dealt-first t ts below) ∙ is in
          let same_place = differ (i + t) (i + t0) (omega (arith, below.0, size)) high (ap head whole ∙ sym wanted-first) in
          let same : t ≡ t0 = omega (arith, same_place) in
          let others = (rest.2 ts below.1).0 (subst (λ u. take k (drop (i + 1) (after_steps (i + 1) ts (swap items i (i + u)))) ≡ ws) same (ap tail whole)) in
          ap (λ (u : ℕ). u ∷ ts) same ∙ ap (λ (us : List ℕ). t0 ∷ us) others

      deals-it : t ∷ ts ≡ t0 ∷ rest.0 → take (suc k) (drop i (after_steps i (t ∷ ts) items)) ≡ w ∷ ws
      deals-it is =
          let same = ap head is in
          let others = (rest.2 ts below.1).1 (ap tail is) in
          dealt-first t ts below
          ∙ ap (λ (u : ℕ). get_or items (i + u) 0 ∷ take k (drop (i + 1) (after_steps (i + 1) ts (swap items i (i + u))))) same
          ∙ ap (λ (x : ℕ). x ∷ take k (drop (i + 1) (after_steps (i + 1) ts (swap items i (i + t0))))) wanted-first
          ∙ ap (λ (xs : List ℕ). w ∷ xs) others

pub finds : (k i n : ℕ) (items wanted : List ℕ) → length items ≡ n → i + k ≤ n → AreDifferent items
    → length wanted ≡ k → AreDifferent wanted → AreFrom i items wanted → Finds k i n items wanted
finds zero i n items [] size room differ many apart from = ([], tt, none)
  where
    none : (numbers : List ℕ) → AreBelow numbers [] → (take 0 (drop i (after_steps i numbers items)) ≡ []) ↔ (numbers ≡ [])
    none [] below = (λ _. refl, λ _. refl)
    none (t ∷ ts) below = absurd below
finds zero i n items (w ∷ ws) size room differ many apart from = absurd (omega (arith, many))
finds (suc k) i n items [] size room differ many apart from = absurd (omega (arith, many))
finds (suc k) i n items (w ∷ ws) size room differ many apart from =
    let found = from 0 (omega arith) in
    let t0 : ℕ = found.0 - i in
    let place : i + t0 ≡ found.0 = omega (arith, found.1) in
    let high : i + t0 < length items = omega (arith, found.1, found.2) in
    let wanted-first : get_or items (i + t0) 0 ≡ w = rw place found.3 in
    let rest =
    finds k (i + 1) n (swap items i (i + t0)) ws (length-swap items i (i + t0) ∙ size) (omega (arith, room))
    (swap-different items i (i + t0) (omega (arith, size, room)) high differ) (omega (arith, many))
    (λ j m j_low m_low same. let next = apart (suc j) (suc m) (omega (arith, j_low)) (omega (arith, m_low)) same in omega (arith, next))
    (others-from k i n t0 w items ws size room differ high wanted-first apart from) in
    (t0 ∷ rest.0, (omega (arith, found.1, found.2, size), rest.1), only k i n t0 w items ws size room differ high wanted-first rest)
