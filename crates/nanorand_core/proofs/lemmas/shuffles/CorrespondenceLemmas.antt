-- Every permutation is made by valid choices.
use Rattle.std.proofs.Common.{◌≡◌, ℕ, zero, suc, ◌+◌, List, length, replicate, set, swap, IsPermutation, refl, sym, ◌∙◌, subst, arith}
use Rattle.std.proofs.lemmas.List.{length-replicate, length-set}
use Rattle.std.proofs.lemmas.List.Edits.{length-swap}
use Rattle.std.proofs.lemmas.List.FromFn.{length-range_with_len}
use Rattle.std.proofs.lemmas.List.Sorted.{length_permutation}
use Rattle.nanorand_core.specs.shuffles.Shuffles.{arranged}
use Rattle.nanorand_core.specs.shuffles.Arrangements.{IsValid, rising, IsArrangement, CorrespondsOneToOne}
use Rattle.nanorand_core.proofs.lemmas.shuffles.PlaceLemmas.{IsDistinct-rising}
use Rattle.nanorand_core.proofs.lemmas.shuffles.ChoiceLemmas.{Chosen, Choosing, choosing_start, choosing_step}
use Rattle.nanorand_core.proofs.lemmas.shuffles.ChoiceLemmas.{next_place, end_chosen, end_made, Chosen-valid}
use Rattle.nanorand_core.proofs.lemmas.shuffles.ChoiceLemmas.{valid_from_chosen, arranged-permutation, choices-unique}

-- valid choices that make the order
abbrev Makes : List ℕ → Type 0
Makes order = (choices : List ℕ) × (length choices ≡ length order) × Chosen 0 (length order) choices × (arranged choices (rising (length order)) ≡ order)

-- the choices for the last `left` indices
choose_rest : (order : List ℕ) → IsArrangement order → (left i : ℕ) (out scratch : List ℕ) → i + left ≡ length order
    → length out ≡ length order → length scratch ≡ length order → Choosing order out scratch i → Makes order
choose_rest order arrangement zero i out scratch place out_size scratch_size h = (
  out,
  out_size,
  end_chosen order out scratch out_size scratch_size i (omega arith) h,
  end_made order out scratch out_size scratch_size i (omega arith) h,
)
choose_rest order arrangement (suc left) i out scratch place out_size scratch_size h =
    let next = next_place order out scratch out_size scratch_size i h (omega arith) arrangement in
    choose_rest order arrangement left (i + 1) (set out i next.0) (swap scratch i next.0) (omega arith)
    (length-set out i next.0 ∙ out_size) (length-swap scratch i next.0 ∙ scratch_size)
    (choosing_step order out scratch out_size scratch_size i next.0 h (omega arith) next.1 (omega (arith, next.2)) next.3)

made_by_choices : (order : List ℕ) → IsArrangement order → Makes order
made_by_choices order arrangement =
    let size = length-range_with_len 0 (length order) in
    choose_rest order arrangement (length order) 0 (replicate (length order) 0) (rising (length order)) (omega arith)
    (length-replicate (length order) 0) size
    (choosing_start order (replicate (length order) 0) (rising (length order)) refl)

module _ (n : ℕ) where
  rising_size : length (rising n) ≡ n
  rising_size = length-range_with_len 0 n

  rising_chosen : (choices : List ℕ) → length choices ≡ n → IsValid choices → Chosen 0 (length (rising n)) choices
  rising_chosen choices size valid = rw rising_size (Chosen-valid n choices size valid)

  made_permutation : (choices : List ℕ) → length choices ≡ n → IsValid choices → IsPermutation (rising n) (arranged choices (rising n))
  made_permutation choices size valid =
      arranged-permutation 0 choices (rising n) (omega (arith, rising_size)) (rising_chosen choices size valid)

  made_size : (choices : List ℕ) → length choices ≡ n → IsValid choices → length (arranged choices (rising n)) ≡ n
  made_size choices size valid =
      length_permutation (rising n) (arranged choices (rising n)) (made_permutation choices size valid) ∙ rising_size

  pub corresponds : CorrespondsOneToOne n
  corresponds = record {
    makes = λ choices size valid. (made_size choices size valid, rw (made_size choices size valid) (made_permutation choices size valid));
    alone = λ choices others size other_size valid other_valid same.
        choices-unique 0 choices others (rising n) (size ∙ sym other_size) (omega (arith, rising_size)) (IsDistinct-rising n)
        (rising_chosen choices size valid) (rising_chosen others other_size other_valid) same;
    each = λ order size arrangement.
        let made = made_by_choices order arrangement in (
          made.0,
          made.1 ∙ size,
          valid_from_chosen (length order) made.0 made.1 made.2,
          subst (λ k. arranged made.0 (rising k) ≡ order) size made.3,
        );
  }
