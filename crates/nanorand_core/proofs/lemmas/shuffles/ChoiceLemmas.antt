-- Choices and the permutations that they make.
use Rattle.std.proofs.Common.{◌≡◌, ℕ, suc, ◌+◌, ◌<◌, ◌≤◌, List, [], ◌∷◌, ◌++◌, length, get_or, swap, IsPermutation}
use Rattle.std.proofs.Common.{refl, sym, ◌∙◌, ap, inl, inr, arith, add-zero, take, set, subst}
use Rattle.std.proofs.lemmas.Bool.{cases_lt}
use Rattle.std.proofs.lemmas.List.{take_more, take_more_set, take_all, length-take-le, take-set-le, get_or_append_left, get_or_push, length_push}
use Rattle.std.proofs.lemmas.List.FromFn.{length-range_with_len}
use Rattle.std.proofs.lemmas.Grind.{same_number_lists}
use Rattle.std.proofs.lemmas.List.Edits.{length-swap}
use Rattle.std.proofs.lemmas.List.Sorted.{IsPermutation-refl, IsPermutation-swap, IsPermutation-trans}
use Rattle.nanorand_core.specs.shuffles.Shuffles.{arranged_from, arranged}
use Rattle.nanorand_core.specs.shuffles.Arrangements.{IsValid, rising, IsArrangement}
use Rattle.nanorand_core.proofs.lemmas.shuffles.PlaceLemmas.{IsDistinct, IsDistinct-swap, IsDistinct-rising}
use Rattle.nanorand_core.proofs.lemmas.shuffles.PlaceLemmas.{IsDistinct-arrangement, AllBelow-arrangement}
use Rattle.nanorand_core.proofs.lemmas.shuffles.PlaceLemmas.{HasBelow-arrangement, get_or-swap_first, get_or-swap_other}

-- choices followed by more choices are swaps followed by more swaps
pub arranged_from-append : {T : Type 0} (i : ℕ) (choices more : List ℕ) (items : List T)
    → arranged_from i (choices ++ more) items ≡ arranged_from (i + length choices) more (arranged_from i choices items)
arranged_from-append i [] more items = rw (add-zero i) refl
arranged_from-append i (c ∷ cs) more items =
    let place : i + 1 + length cs ≡ i + suc (length cs) = omega arith in
    rw (← place) (arranged_from-append (i + 1) cs more (swap items i c))

-- one more choice is one more swap
pub arranged_from-push : {T : Type 0} (i j : ℕ) (choices : List ℕ) (items : List T)
    → arranged_from i (choices ++ j ∷ []) items ≡ swap (arranged_from i choices items) (i + length choices) j
arranged_from-push i j choices items = arranged_from-append i choices (j ∷ []) items

pub arranged-more : {T : Type 0} (choices : List ℕ) (items : List T) (i : ℕ) → i < length choices
    → arranged (take (i + 1) choices) items ≡ swap (arranged (take i choices) items) i (get_or choices i 0)
arranged-more choices items i low =
    let size : 0 + length (take i choices) ≡ i = omega (arith, length-take-le i choices (omega arith)) in
    rw (take_more choices i 0 low, arranged_from-push 0 (get_or choices i 0) (take i choices) items, size) refl

-- valid choices for the indices from i on: each is its own index or a later one, below n
pub record Chosen (i n : ℕ) (choices : List ℕ) : Type 0 where
  pub each : (k : ℕ) → k < length choices → (i + k ≤ get_or choices k 0) × (get_or choices k 0 < n)

Chosen-tail : (i n j : ℕ) (cs : List ℕ) → Chosen i n (j ∷ cs) → Chosen (i + 1) n cs
Chosen-tail i n j cs h = record {
  each = λ k low. let more = h.each (suc k) (omega arith) in (omega (arith, more.0), more.1);
}

Chosen-head : (i n j : ℕ) (cs : List ℕ) → Chosen i n (j ∷ cs) → (i ≤ j) × (j < n)
Chosen-head i n j cs h = let first = h.each 0 (omega arith) in (omega (arith, first.0), first.1)

-- choices make a permutation of the items
pub arranged-permutation : {T : Type 0} (i : ℕ) (choices : List ℕ) (items : List T) → i + length choices ≤ length items
    → Chosen i (length items) choices → IsPermutation items (arranged_from i choices items)
arranged-permutation i [] items room h = IsPermutation-refl items
arranged-permutation i (j ∷ cs) items room h =
    let head = Chosen-head i (length items) j cs h in
    let size = length-swap items i j in
    let tail : Chosen (i + 1) (length (swap items i j)) cs = rw size (Chosen-tail i (length items) j cs h) in
    IsPermutation-trans items (swap items i j) (arranged_from (i + 1) cs (swap items i j))
    (IsPermutation-swap items (swap items i j) i j (omega arith) head.1 refl)
    (arranged-permutation (i + 1) cs (swap items i j) (omega arith) tail)

-- swaps of later items do not move the first ones
take-swap : {T : Type 0} (k i j : ℕ) (items : List T) → k ≤ i → k ≤ j → take k (swap items i j) ≡ take k items
take-swap k i j [] before after = refl
take-swap k i j (x ∷ xs) before after =
    let items = x ∷ xs in
    take-set-le k (set items i (get_or items j x)) j (get_or items i x) after ∙ take-set-le k items i (get_or items j x) before

pub take-arranged : {T : Type 0} (k i n : ℕ) (choices : List ℕ) (items : List T) → k ≤ i → Chosen i n choices
    → take k (arranged_from i choices items) ≡ take k items
take-arranged k i n [] items before h = refl
take-arranged k i n (j ∷ cs) items before h =
    let head = Chosen-head i n j cs h in
    take-arranged k (i + 1) n cs (swap items i j) (omega arith) (Chosen-tail i n j cs h)
    ∙ take-swap k i j items before (omega arith)

-- an index before i keeps its item
untouched : (i : ℕ) (choices items : List ℕ) (k : ℕ) → i + length choices ≤ length items
    → Chosen i (length items) choices → k < i → get_or (arranged_from i choices items) k 0 ≡ get_or items k 0
untouched i [] items k room h before = refl
untouched i (j ∷ cs) items k room h before =
    let head = Chosen-head i (length items) j cs h in
    let size = length-swap items i j in
    let tail : Chosen (i + 1) (length (swap items i j)) cs = rw size (Chosen-tail i (length items) j cs h) in
    untouched (i + 1) cs (swap items i j) k (omega arith) tail (omega arith)
    ∙ get_or-swap_other items i j k 0 (omega arith) head.1 (omega arith) (omega arith)

-- two lists of choices that make the same permutation of distinct numbers are equal
pub choices-unique : (i : ℕ) (cs ds items : List ℕ) → length cs ≡ length ds → i + length cs ≤ length items → IsDistinct items
    → Chosen i (length items) cs → Chosen i (length items) ds
    → arranged_from i cs items ≡ arranged_from i ds items → cs ≡ ds
choices-unique i [] [] items size room distinct g h same = refl
choices-unique i [] (d ∷ ds) items size room distinct g h same = absurd (omega arith)
choices-unique i (c ∷ cs) [] items size room distinct g h same = absurd (omega arith)
choices-unique i (c ∷ cs) (d ∷ ds) items size room distinct g h same =
    let c_head = Chosen-head i (length items) c cs g in
    let d_head = Chosen-head i (length items) d ds h in
    let c_size = length-swap items i c in
    let d_size = length-swap items i d in
    let c_tail : Chosen (i + 1) (length (swap items i c)) cs = rw c_size (Chosen-tail i (length items) c cs g) in
    let d_tail : Chosen (i + 1) (length (swap items i d)) ds = rw d_size (Chosen-tail i (length items) d ds h) in
    let c_at = untouched (i + 1) cs (swap items i c) i (omega arith) c_tail (omega arith) ∙ get_or-swap_first items i c 0 (omega arith) c_head.1 in
    let d_at = untouched (i + 1) ds (swap items i d) i (omega arith) d_tail (omega arith) ∙ get_or-swap_first items i d 0 (omega arith) d_head.1 in
    let first : c ≡ d = distinct.once c d c_head.1 d_head.1 (sym c_at ∙ ap (λ xs. get_or xs i 0) same ∙ d_at) in
    let other_tail : Chosen (i + 1) (length (swap items i c)) ds = rw c_size (Chosen-tail i (length items) d ds h) in
    let rest : cs ≡ ds =
    choices-unique (i + 1) cs ds (swap items i c) (omega arith) (omega arith) (IsDistinct-swap items i c (omega arith) c_head.1 distinct) c_tail other_tail
    (same ∙ ap (λ j. arranged_from (i + 1) ds (swap items i j)) (sym first)) in
    ap (λ x. x ∷ cs) first ∙ ap (λ xs. d ∷ xs) rest

-- the invariant of `choices_of`: the first i choices, and the list that they make
pub record Choosing (order out scratch : List ℕ) (i : ℕ) : Type 0 where
  pub made : scratch ≡ arranged (take i out) (rising (length order))
  pub chosen : Chosen 0 (length order) (take i out)
  pub front : (k : ℕ) → k < i → get_or scratch k 0 ≡ get_or order k 0

pub choosing_start : (order out scratch : List ℕ) → scratch ≡ rising (length order) → Choosing order out scratch 0
choosing_start order out scratch is = record {
  made = is;
  chosen = record { each = λ k low. absurd (omega arith) };
  front = λ k low. absurd (omega arith);
}

module _ (order out scratch : List ℕ) (out_size : length out ≡ length order) (scratch_size : length scratch ≡ length order) where
  pub choosing_step : (i j : ℕ) → Choosing order out scratch i → i < length order → i ≤ j → j < length order
      → get_or scratch j 0 ≡ get_or order i 0 → Choosing order (set out i j) (swap scratch i j) (i + 1)
  choosing_step i j h low from to found =
      let more = take_more_set out i j (omega arith) in
      let size = length-take-le i out (omega arith) in
      let place : 0 + length (take i out) ≡ i = omega arith in
      record {
        made = rw (more, arranged_from-push 0 j (take i out) (rising (length order)), place, ← h.made) refl;
        chosen = rw more (record {
          each = λ k low. elim (cases_lt k i) [
            | inl before ↦ rw (get_or_append_left (take i out) (j ∷ []) 0 k (omega arith)) (h.chosen.each k (omega arith))
            | inr after ↦
                let all = length_push (take i out) j in
                let here : k ≡ i = omega arith in
                rw (here, get_or_push (take i out) j 0 i size) (omega arith, to)
          ];
        });
        front = λ k low. elim (cases_lt k i) [
          | inl before ↦
              get_or-swap_other scratch i j k 0 (omega arith) (omega arith) (omega arith) (omega arith) ∙ h.front k before
          | inr after ↦
              let here : k ≡ i = omega arith in
              rw here (get_or-swap_first scratch i j 0 (omega arith) (omega arith) ∙ found)
        ];
      }

  -- the next number of a permutation is at index i or a later one
  pub next_place : (i : ℕ) → Choosing order out scratch i → i < length order → IsArrangement order
      → (j : ℕ) × (i ≤ j) × (j < length scratch) × (get_or scratch j 0 ≡ get_or order i 0)
  next_place i h low arrangement =
      let size = length-take-le i out (omega arith) in
      let id_size = length-range_with_len 0 (length order) in
      let chosen : Chosen 0 (length (rising (length order))) (take i out) = rw id_size h.chosen in
      let shuffled : IsPermutation (rising (length order)) scratch =
      rw h.made (arranged-permutation 0 (take i out) (rising (length order)) (omega arith) chosen) in
      let value = (AllBelow-arrangement (length order) order arrangement).below i low in
      let found = (HasBelow-arrangement (length order) scratch shuffled).place (get_or order i 0) value in
      elim (cases_lt found.0 i) [
        | inl before ↦
            let twice = sym (h.front found.0 before) ∙ found.2 in
            let same : found.0 ≡ i = (IsDistinct-arrangement (length order) order arrangement).once found.0 i (omega arith) low twice in
            absurd (omega arith)
        | inr after ↦ (found.0, after, found.1, found.2)
      ]

  pub choosing_refused : (i : ℕ) → Choosing order out scratch i → i < length order
      → ((k : ℕ) → i ≤ k → k < length scratch → get_or scratch k 0 ≡ get_or order i 0 → ⊥) → IsArrangement order → ⊥
  choosing_refused i h low missing arrangement =
      let found = next_place i h low arrangement in missing found.0 found.1 found.2 found.3

  module _ (i : ℕ) (done : i ≡ length order) (h : Choosing order out scratch i) where
    whole_out : take i out ≡ out
    whole_out = take_all i out (omega arith)

    scratch_is : scratch ≡ order
    scratch_is = same_number_lists scratch order scratch_size (λ k low. h.front k (omega arith))

    pub end_chosen : Chosen 0 (length order) out
    end_chosen = rw whole_out at h.chosen

    pub end_made : arranged out (rising (length order)) ≡ order
    end_made = sym (rw whole_out at h.made) ∙ scratch_is

pub Chosen-valid : (n : ℕ) (choices : List ℕ) → length choices ≡ n → IsValid choices → Chosen 0 n choices
Chosen-valid n choices size h = record {
  each = λ k low. let at = h k low in (omega (arith, at.0), omega (arith, at.1));
}

pub valid_from_chosen : (n : ℕ) (choices : List ℕ) → length choices ≡ n → Chosen 0 n choices → IsValid choices
valid_from_chosen n choices size h i low = let at = h.each i low in (omega (arith, at.0), omega (arith, at.1))

-- valid choices that make `order`: no others make it, and it is a permutation
module _ (order out : List ℕ) (size : length out ≡ length order) (chosen : Chosen 0 (length order) out)
    (made : arranged out (rising (length order)) ≡ order) where
  id_size : length (rising (length order)) ≡ length order
  id_size = length-range_with_len 0 (length order)

  pub made_alone : (choices : List ℕ) → length choices ≡ length order → IsValid choices
      → arranged choices (rising (length order)) ≡ order → choices ≡ out
  made_alone choices other_size valid also =
      let one : Chosen 0 (length (rising (length order))) choices = rw id_size (Chosen-valid (length order) choices other_size valid) in
      let two : Chosen 0 (length (rising (length order))) out = rw id_size chosen in
      choices-unique 0 choices out (rising (length order)) (other_size ∙ sym size) (omega (arith, id_size))
      (IsDistinct-rising (length order)) one two (also ∙ sym made)

  pub made_arrangement : IsArrangement order
  made_arrangement =
      let two : Chosen 0 (length (rising (length order))) out = rw id_size chosen in
      subst (λ xs. IsPermutation (rising (length order)) xs) made
      (arranged-permutation 0 out (rising (length order)) (omega (arith, id_size)) two)
