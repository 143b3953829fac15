-- A sample while it is drawn: its numbers stay different and below the count, and each draw
-- continues or ends it.
use Rattle.std.proofs.Common.{◌≡◌, ◌≢◌, ◌==◌, ℕ, suc, ◌+◌, ◌-◌, ◌*◌, ◌<◌, ◌≤◌, List, ◌++◌, length, get_or, take, drop}
use Rattle.std.proofs.Common.{set, Ok, Err, inl, inr, refl, sym, ◌∙◌, ap, arith}
use Rattle.std.specs.Fn.{iterate}
use Rattle.std.specs.List.{All, AllPairs}
use Rattle.std.proofs.lemmas.Bool.{cases_Bool, eq-eqb, both_ways}
use Rattle.std.proofs.lemmas.List.{take-append-drop, length-take-le, drop-set-lt, drop-drop}
use Rattle.std.proofs.lemmas.List.Elements.{All-push, All-weaker}
use Rattle.std.proofs.lemmas.List.Folds.{list_any_at}
use Rattle.std.proofs.lemmas.List.Quantifiers.{all_pairs_push}
use Rattle.nanorand_core.specs.generators.Blocks.{Requests}
use Rattle.nanorand_core.specs.samples.Samples.{Sample, holds, joined, number_up_to, sampled_from}
use Rattle.nanorand_core.specs.support.IterateLemmas.{iterate-add}
use Rattle.nanorand_core.specs.declared.values.range.RangeError.{RangeError}

module _ (last drawn : ℕ) (sample : List ℕ) (below : All (λ x. x < last) sample) where
  pub joined_below : drawn ≤ last → All (λ x. x < last + 1) (joined last drawn sample)
  joined_below within =
      let wider : All (λ x. x < last + 1) sample =
      All-weaker (λ x. x < last) (λ x. x < last + 1) (λ x low. omega arith) sample below in
      elim (cases_Bool (holds drawn sample)) [
        | inl held ↦ rw held (All-push (λ x. x < last + 1) sample last wider (omega arith))
        | inr new ↦ rw new (All-push (λ x. x < last + 1) sample drawn wider (omega arith))
      ]

  pub joined_apart : AllPairs (λ x y. x ≢ y) sample → AllPairs (λ x y. x ≢ y) (joined last drawn sample)
  joined_apart apart =
      elim (cases_Bool (holds drawn sample)) [
        | inl held ↦ rw held
            (all_pairs_push (λ x y. x ≢ y) sample last apart
            (λ k d within. let low = below k d within in (λ same. absurd (omega arith))))
        | inr new ↦ rw new
            (all_pairs_push (λ x y. x ≢ y) sample drawn apart
            (λ k d within same.
            both_ways (holds drawn sample) new
            (list_any_at (λ other. other == drawn) sample k d within (eq-eqb (get_or sample k d) drawn same))))
      ]

-- a sampling continues after a number, and ends with an error
module _ {G : Type 0} (requests : Requests G) (first slot size : ℕ) (g h : G) (sample : List ℕ) (whole : Sample G)
    (more : slot < size) (so_far : sampled_from requests (first + slot) (size - slot) g sample ≡ whole)
    (left : h ≡ (number_up_to requests (first + slot) g).1) where
  pub sampling_goes_on : (drawn : ℕ) → Ok drawn ≡ (number_up_to requests (first + slot) g).0
      → sampled_from requests (first + (slot + 1)) (size - (slot + 1)) h (joined (first + slot) drawn sample) ≡ whole
  sampling_goes_on drawn is =
      let next : size - slot ≡ suc (size - (slot + 1)) = omega arith in
      let later : first + (slot + 1) ≡ first + slot + 1 = omega arith in
      rw (later, left) (rw (next, ← is) at so_far)

  pub sampling_ends : (refusal : RangeError) → Err refusal ≡ (number_up_to requests (first + slot) g).0
      → record { answer = Err refusal; numbers = sample; state = h } ≡ whole
  sampling_ends refusal is =
      let next : size - slot ≡ suc (size - (slot + 1)) = omega arith in
      rw left (rw (next, ← is) at so_far)

-- the slots written so far, and those that are unchanged
pub slots_filled : (slot : ℕ) (places old numbers : List ℕ) → slot ≤ length places → numbers ≡ take slot places
    → drop slot places ≡ drop slot old → places ≡ numbers ++ drop (length numbers) old
slots_filled slot places old numbers within is rest =
    let long : length numbers ≡ slot = ap length is ∙ length-take-le slot places within in
    sym (take-append-drop slot places) ∙ ap (λ behind. take slot places ++ behind) rest
    ∙ rw (long, is) refl

-- one more slot is written
pub slots_left : (slot number : ℕ) (places old : List ℕ) → drop slot places ≡ drop slot old
    → drop (slot + 1) (set places slot number) ≡ drop (slot + 1) old
slots_left slot number places old rest =
    drop-set-lt (slot + 1) places slot number (omega arith)
    ∙ sym (drop-drop 1 slot places) ∙ ap (drop 1) rest ∙ drop-drop 1 slot old

-- the number of words that several draws take
pub words_more : {A : Type 0} (h : A → A) (limit i : ℕ) (x y z : A)
    → (n : ℕ) × (n ≤ limit * i) × (y ≡ iterate h n x) → (n : ℕ) × (n ≤ limit) × (z ≡ iterate h n y)
    → (n : ℕ) × (n ≤ limit * (i + 1)) × (z ≡ iterate h n x)
words_more h limit i x y z before next =
    let few = before.1 in
    let one = next.1 in
    (before.0 + next.0, omega arith, next.2 ∙ ap (iterate h next.0) before.2 ∙ sym (iterate-add h before.0 next.0 x))
