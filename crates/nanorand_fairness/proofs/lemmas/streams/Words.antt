-- The words of a generator: the first word, and those of the state after it.
use Rattle.std.proofs.Common.{◌≡◌, ℕ, zero, suc, ◌+◌, List, ◌∷◌, map, refl, ap, ◌∙◌, add-one}
use Rattle.std.specs.Fn.{iterate}
use Rattle.std.specs.List.{range_with_len}
use Rattle.nanorand_core.specs.values.Draws.{words_from}

module _ {G : Type 0} (word : G → ℕ) (after : G → G) where
  later-words : (a n : ℕ) (g : G) → map (λ i. word (iterate after i g)) (range_with_len (a + 1) n)
      ≡ map (λ i. word (iterate after i (after g))) (range_with_len a n)
  later-words a zero g = refl
  later-words a (suc n) g =
      ap (λ (i : ℕ). word (iterate after i g) ∷ map (λ i. word (iterate after i g)) (range_with_len (a + 1 + 1) n)) (add-one a)
      ∙ ap (λ (words : List ℕ). word (iterate after a (after g)) ∷ words) (later-words (a + 1) n g)

  pub words-next : (n : ℕ) (g : G) → words_from word after (suc n) g ≡ word g ∷ words_from word after n (after g)
  unfolding words_from
  words-next n g = ap (λ (words : List ℕ). word g ∷ words) (later-words 0 n g)
