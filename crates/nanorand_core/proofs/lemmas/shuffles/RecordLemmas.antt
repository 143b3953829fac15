-- Choices that are recorded while a shuffle draws them.
use Rattle.std.proofs.Common.{◌≡◌, ℕ, zero, suc, ◌+◌, ◌-◌, ◌<◌, ◌≤◌, List, [], ◌∷◌, ◌++◌, length, get_or, take, set}
use Rattle.std.proofs.Common.{swap, append_assoc, Ok, inl, inr, refl, sym, ◌∙◌, ap, arith}
use Rattle.std.specs.List.{range_with_len}
use Rattle.std.proofs.Math.Seq.{set-append_seam}
use Rattle.std.proofs.lemmas.Bool.{cases_lt}
use Rattle.std.proofs.lemmas.List.{take_more, take_all, append-nil, length-append, length-take-le, length_push}
use Rattle.std.proofs.lemmas.List.{set-get_or, get_or_append_left, get_or-append_right}
use Rattle.std.proofs.lemmas.List.FromFn.{length-range_with_len, get_or-range_with_len}
use Rattle.nanorand_core.specs.generators.Blocks.{Requests}
use Rattle.nanorand_core.specs.shuffles.Arrangements.{completed, rising, IsValid}
use Rattle.nanorand_core.specs.shuffles.Shuffles.{arranged, arranged_from, from_itself, shuffle_choices, partner_drawn}
use Rattle.nanorand_core.proofs.lemmas.shuffles.ChoiceLemmas.{Chosen, arranged_from-append, valid_from_chosen}
use Rattle.nanorand_core.proofs.lemmas.shuffles.ShuffleLemmas.{Shuffling, choice-drawn, choices-chosen}

-- swapping an index with itself changes nothing
swap-itself : {T : Type 0} (items : List T) (i : ℕ) → swap items i i ≡ items
swap-itself [] i = refl
swap-itself (x ∷ xs) i =
    ap (λ ys. set ys i (get_or (x ∷ xs) i x)) (set-get_or (x ∷ xs) i x) ∙ set-get_or (x ∷ xs) i x

-- indices that are their own choices move nothing
arranged_from-places : {T : Type 0} (i left : ℕ) (items : List T) → arranged_from i (range_with_len i left) items ≡ items
arranged_from-places i zero items = refl
arranged_from-places i (suc left) items = arranged_from-places (i + 1) left (swap items i i) ∙ swap-itself items i

pub completed-arranged : {T : Type 0} (n : ℕ) (choices : List ℕ) (items : List T)
    → arranged (completed n choices) items ≡ arranged choices items
completed-arranged n choices items =
    let place : 0 + length choices ≡ length choices = omega arith in
    arranged_from-append 0 choices (range_with_len (length choices) (n - length choices)) items
    ∙ rw place (arranged_from-places (length choices) (n - length choices) (arranged choices items))

pub completed-nothing : (n : ℕ) → completed n [] ≡ rising n
completed-nothing n = let all : n - 0 ≡ n = omega arith in rw all refl

pub completed-whole : (n : ℕ) (choices : List ℕ) → length choices ≡ n → completed n choices ≡ choices
completed-whole n choices size = let none : n - length choices ≡ 0 = omega arith in rw none (append-nil choices)

completed-size : (n : ℕ) (choices : List ℕ) → length choices ≤ n → length (completed n choices) ≡ n
completed-size n choices room =
    omega (arith, length-append choices (range_with_len (length choices) (n - length choices)), length-range_with_len (length choices) (n - length choices))

-- one more choice replaces the first index after the choices
pub completed-more : (n i j : ℕ) (choices : List ℕ) → length choices ≡ i → i < n
    → set (completed n choices) i j ≡ completed n (choices ++ j ∷ [])
completed-more n i j choices is room =
    let left : n - length choices ≡ suc (n - (length choices + 1)) = omega arith in
    let size = length_push choices j in
    rw (← is, left, size, append_assoc)
    (set-append_seam choices (length choices) (range_with_len (length choices + 1) (n - (length choices + 1))) j)

completed-chosen : (n : ℕ) (choices : List ℕ) → length choices ≤ n → Chosen 0 n choices → Chosen 0 n (completed n choices)
completed-chosen n choices room h =
    let size = completed-size n choices room in
    let rest = range_with_len (length choices) (n - length choices) in
    record {
      each = λ k low. elim (cases_lt k (length choices)) [
        | inl before ↦ rw (get_or_append_left choices rest 0 k before) (h.each k before)
        | inr behind ↦
            let at = get_or-append_right choices rest (length choices) k 0 refl behind
            ∙ get_or-range_with_len (length choices) (n - length choices) (k - length choices) 0 (omega arith) in
            (omega (arith, at), omega (arith, at))
      ];
    }

pub completed-valid : (n : ℕ) (choices : List ℕ) → length choices ≤ n → Chosen 0 n choices → IsValid (completed n choices)
completed-valid n choices room h =
    valid_from_chosen n (completed n choices) (completed-size n choices room) (completed-chosen n choices room h)

module _ {G T : Type 0} (requests : Requests G) (items : List T) (g : G) where
  -- i choices were drawn and recorded, and the later indices are their own choices
  pub record Recording (i : ℕ) (now : G) (list : List T) (choices : List ℕ) : Type 0 where
    pub shuffling : Shuffling requests from_itself (length items) items g i now list
    pub recorded : choices ≡ completed (length items) (take i (shuffle_choices requests from_itself (length items) g))

  pub recorded-start : (choices : List ℕ) → choices ≡ rising (length items)
      → choices ≡ completed (length items) (take 0 (shuffle_choices requests from_itself (length items) g))
  recorded-start choices is = is ∙ sym (completed-nothing (length items))

  -- the recorded choices and the items, after the last draw
  pub record Recorded (list : List T) (choices : List ℕ) : Type 0 where
    pub is : choices ≡ completed (length items) (shuffle_choices requests from_itself (length items) g)
    pub valid : IsValid choices
    pub makes : arranged choices items ≡ list

module _ {G T : Type 0} {requests : Requests G} {items : List T} {g : G} {i : ℕ} {now : G} {list : List T} {choices : List ℕ}
    (m : Recording requests items g i now list choices) where
  pub recorded-step : {j : ℕ} → i < length items → Ok j ≡ (partner_drawn requests from_itself (length items) i now).0
      → set choices i j ≡ completed (length items) (take (i + 1) (shuffle_choices requests from_itself (length items) g))
  recorded-step {j} low drawn =
      let drawn_choices = shuffle_choices requests from_itself (length items) g in
      let parts = choice-drawn m.shuffling low drawn in
      let size = length-take-le i drawn_choices m.shuffling.many in
      let more : take (i + 1) drawn_choices ≡ take i drawn_choices ++ j ∷ [] =
      take_more drawn_choices i 0 parts.0 ∙ ap (λ x. take i drawn_choices ++ x ∷ []) parts.1 in
      ap (λ xs. set xs i j) m.recorded ∙ completed-more (length items) i j (take i drawn_choices) size low
      ∙ ap (completed (length items)) (sym more)

  pub recorded : i ≤ length items → length (shuffle_choices requests from_itself (length items) g) ≡ i
      → Recorded requests items g list choices
  recorded room size =
      let drawn = shuffle_choices requests from_itself (length items) g in
      let all : take i drawn ≡ drawn = take_all i drawn (omega (arith, size)) in
      let is : choices ≡ completed (length items) drawn = m.recorded ∙ ap (completed (length items)) all in
      let made : list ≡ arranged drawn items = m.shuffling.made ∙ ap (λ xs. arranged xs items) all in
      record {
        is = is;
        valid = rw is (completed-valid (length items) drawn (omega (arith, size)) (choices-chosen requests (length items) (length items) 0 g));
        makes = rw (is, made) (completed-arranged (length items) drawn items);
      }
