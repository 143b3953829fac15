-- The steps of a shuffle from index i on, by the numbers drawn.
use Rattle.std.proofs.Common.{◌≡◌, ℕ, zero, suc, ◌+◌, ◌-◌, ◌<◌, ◌≤◌, List, [], ◌∷◌, length, get_or, map, swap, refl, ◌∙◌, arith}
use Rattle.std.specs.List.{AllZip, range_with_len}
use Rattle.std.proofs.lemmas.List.Edits.{length-swap, swapped_from_swap}
use Rattle.nanorand_core.specs.shuffles.Shuffles.{arranged_from}
use Rattle.nanorand_fairness.specs.Deals.{choices_by}

-- Each number is below the size of its draw.
abbrev pub AreBelow : List ℕ → List ℕ → Type 0
AreBelow numbers sizes = AllZip (λ number size. number < size) numbers sizes

-- The sizes of k draws from index i on.
abbrev pub sizes_from : ℕ → ℕ → ℕ → List ℕ
sizes_from i k n = map (λ j. n - j) (range_with_len i k)

abbrev pub after_steps : ℕ → List ℕ → List ℕ → List ℕ
after_steps i numbers items = arranged_from i (choices_by i numbers) items

-- later steps do not move the earlier items
pub steps-keep : (k i n : ℕ) (numbers items : List ℕ) → AreBelow numbers (sizes_from i k n) → length items ≡ n → i + k ≤ n
    → (length (after_steps i numbers items) ≡ n) × ((j : ℕ) → j < i → get_or (after_steps i numbers items) j 0 ≡ get_or items j 0)
steps-keep zero i n [] items below size room = (size, λ j low. refl)
steps-keep zero i n (t ∷ ts) items below size room = absurd below
steps-keep (suc k) i n [] items below size room = absurd below
steps-keep (suc k) i n (t ∷ ts) items below size room =
    let swapped = swapped_from_swap items (swap items i (i + t)) i (i + t) 0 (omega (arith, below.0)) (omega (arith, below.0)) refl in
    let rest = steps-keep k (i + 1) n ts (swap items i (i + t)) below.1 (length-swap items i (i + t) ∙ size) (omega (arith, room)) in
    (rest.0, λ j low. rest.1 j (omega arith) ∙ swapped.2 j (λ same. absurd (omega arith)) (λ same. absurd (omega arith)))
