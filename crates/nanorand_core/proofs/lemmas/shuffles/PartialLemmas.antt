-- Partial shuffles: their choices are valid, and they are the first choices of the whole shuffle.
use Rattle.std.proofs.Common.{◌≡◌, ℕ, zero, suc, ◌+◌, ◌≤◌, List, length, take, drop, min, IsPermutation, inl, inr, Result, Ok, Err, refl, sym, ◌∙◌, ap, arith}
use Rattle.nanorand_core.specs.generators.Blocks.{Requests}
use Rattle.nanorand_core.specs.shuffles.Shuffles.{arranged, arranged_from, from_itself, choice_before, partner_drawn}
use Rattle.nanorand_core.specs.shuffles.Shuffles.{choices_from, partial_choices, partly_shuffled, shuffled}
use Rattle.nanorand_core.specs.shuffles.Arrangements.{completed, IsValid}
use Rattle.nanorand_core.specs.declared.values.range.RangeError.{RangeError}
use Rattle.std.proofs.lemmas.Bool.{cases_lt}
use Rattle.std.proofs.lemmas.List.{take_all, take-append-drop, length-take-le, length-drop, get_or-drop}
use Rattle.nanorand_core.proofs.lemmas.shuffles.ChoiceLemmas.{Chosen, arranged_from-append, arranged-permutation, take-arranged}
use Rattle.nanorand_core.proofs.lemmas.shuffles.ShuffleLemmas.{choices-chosen}
use Rattle.nanorand_core.proofs.lemmas.shuffles.RecordLemmas.{completed-valid}

length-before : (drawn : Result ℕ RangeError) (rest : List ℕ) (left : ℕ) → length rest ≤ left
    → length (choice_before drawn rest) ≤ suc left
length-before (Ok choice) rest left fits = omega arith
length-before (Err refusal) rest left fits = omega arith

take-before : (drawn : Result ℕ RangeError) (rest : List ℕ) (count : ℕ)
    → take (suc count) (choice_before drawn rest) ≡ choice_before drawn (take count rest)
take-before (Ok choice) rest count = refl
take-before (Err refusal) rest count = refl

module _ {G : Type 0} (requests : Requests G) (first : ℕ → ℕ) (n : ℕ) where
  -- there is at most one choice for each index
  choices-fit : (left i : ℕ) (g : G) → length (choices_from requests first n i left g) ≤ left
  unfolding choices_from
  choices-fit zero i g = omega arith
  choices-fit (suc left) i g =
      let drawn = partner_drawn requests first n i g in
      length-before drawn.0 (choices_from requests first n (i + 1) left drawn.1) left (choices-fit left (i + 1) drawn.1)

  -- the choices of fewer indices are the first ones of the choices of more
  choices-take : (count left i : ℕ) (g : G)
      → choices_from requests first n i (min count left) g ≡ take count (choices_from requests first n i left g)
  unfolding choices_from
  choices-take zero left i g = let none : min 0 left ≡ 0 = omega arith in rw none refl
  choices-take (suc count) zero i g = let none : min (suc count) 0 ≡ 0 = omega arith in rw none refl
  choices-take (suc count) (suc left) i g =
      let both : min (suc count) (suc left) ≡ suc (min count left) = omega arith in
      let drawn = partner_drawn requests first n i g in
      rw both (ap (choice_before drawn.0) (choices-take count left (i + 1) drawn.1)
      ∙ sym (take-before drawn.0 (choices_from requests first n (i + 1) left drawn.1) count))

module _ {G : Type 0} (requests : Requests G) where
  pub partial-valid : (n steps : ℕ) (g : G) → steps ≤ n
      → IsValid (completed n (partial_choices requests from_itself n steps g))
  partial-valid n steps g room =
      let fits = choices-fit requests from_itself n steps 0 g in
      completed-valid n (partial_choices requests from_itself n steps g) (omega arith) (choices-chosen requests n steps 0 g)

  module _ {T : Type 0} (first : ℕ → ℕ) (steps : ℕ) (g : G) (items : List T) where
    pub partial-begins : (partly_shuffled requests first steps g items).choices ≡ take steps (shuffled requests first g items).choices
    partial-begins = choices-take requests first (length items) steps (length items) 0 g

    pub partial-whole : length items ≤ steps → partly_shuffled requests first steps g items ≡ shuffled requests first g items
    partial-whole all = let count : min steps (length items) ≡ length items = omega arith in rw count refl

-- The choices after the first ones do not move the items in front.
Chosen-drop : (k n : ℕ) (choices : List ℕ) → k ≤ length choices → Chosen 0 n choices → Chosen k n (drop k choices)
Chosen-drop k n choices room h = record {
  each = λ m low.
      let at = get_or-drop k choices m 0 in
      let there = h.each (k + m) (omega (arith, length-drop k choices)) in
      rw at (omega (arith, there.0), there.1);
}

module _ {T : Type 0} (n k : ℕ) (choices : List ℕ) (items : List T) (h : Chosen 0 n choices) where
  -- if there are k choices
  front-after : k ≤ length choices → take k (arranged (take k choices) items) ≡ take k (arranged choices items)
  front-after room =
      let size : 0 + length (take k choices) ≡ k = omega (arith, length-take-le k choices room) in
      let parts = arranged_from-append 0 (take k choices) (drop k choices) items in
      let later = take-arranged k k n (drop k choices) (arranged (take k choices) items) (omega arith) (Chosen-drop k n choices room h) in
      sym later
      ∙ ap (λ i. take k (arranged_from i (drop k choices) (arranged (take k choices) items))) (sym size)
      ∙ sym (ap (take k) parts)
      ∙ ap (λ cs. take k (arranged cs items)) (take-append-drop k choices)

  pub front-same : take k (arranged (take k choices) items) ≡ take k (arranged choices items)
  front-same = elim (cases_lt (length choices) k) [
    | inl fewer ↦ ap (λ cs. take k (arranged cs items)) (take_all k choices (omega (arith, fewer)))
    | inr room ↦ front-after room
  ]

module _ {G T : Type 0} (requests : Requests G) (steps : ℕ) (g : G) (items : List T) where
  pub partial-first : take steps (partly_shuffled requests from_itself steps g items).items
      ≡ take steps (shuffled requests from_itself g items).items
  partial-first =
      let n = length items in
      ap (λ cs. take steps (arranged cs items)) (partial-begins requests from_itself steps g items)
      ∙ front-same n steps (shuffled requests from_itself g items).choices items (choices-chosen requests n n 0 g)

  pub partial-arrangement : IsPermutation items (partly_shuffled requests from_itself steps g items).items
  partial-arrangement =
      let n = length items in
      let done = min steps n in
      let fits = choices-fit requests from_itself n done 0 g in
      arranged-permutation 0 (partial_choices requests from_itself n done g) items (omega arith) (choices-chosen requests n done 0 g)
