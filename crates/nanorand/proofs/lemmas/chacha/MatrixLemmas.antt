-- Matrices as lists of sixteen variables.
use Rattle.std.proofs.Common.{◌≡◌, ℕ, ◌+◌, List, [], ◌∷◌, length, slice_index, arith, refl}
use Rattle.nanorand.specs.generators.ChaChaRounds.{Words, on_columns, on_diagonals}
use Rattle.nanorand.specs.support.ChaChaLines.{with_line}

-- if a property holds for four elements followed by any list of n, it holds for each list of n + 4
pub four_more : (n : ℕ) (P : List ℕ → Type 0) → ((a b c d : ℕ) (x : List ℕ) → length x ≡ n → P (a ∷ b ∷ c ∷ d ∷ x))
    → (x : List ℕ) → length x ≡ n + 4 → P x
four_more n P p (a ∷ b ∷ c ∷ d ∷ x) h = p a b c d x (omega arith)
four_more n P p [] h = absurd (omega arith)
four_more n P p (a ∷ []) h = absurd (omega arith)
four_more n P p (a ∷ b ∷ []) h = absurd (omega arith)
four_more n P p (a ∷ b ∷ c ∷ []) h = absurd (omega arith)

pub no_more : (P : List ℕ → Type 0) → P [] → (x : List ℕ) → length x ≡ 0 → P x
no_more P p [] h = p
no_more P p (a ∷ x) h = absurd (omega arith)

-- if a property holds for all lists of sixteen variables, it holds for each list of sixteen
pub sixteen : (P : List ℕ → Type 0)
    → ((a b c d e f g h i j k l m n o p : ℕ)
    → P (a ∷ b ∷ c ∷ d ∷ e ∷ f ∷ g ∷ h ∷ i ∷ j ∷ k ∷ l ∷ m ∷ n ∷ o ∷ p ∷ []))
    → (x : List ℕ) → length x ≡ 16 → P x
sixteen P all =
    four_more 12 P (λ a b c d.
    four_more 8 (λ x. P (a ∷ b ∷ c ∷ d ∷ x)) (λ e f g h.
    four_more 4 (λ x. P (a ∷ b ∷ c ∷ d ∷ e ∷ f ∷ g ∷ h ∷ x)) (λ i j k l.
    four_more 0 (λ x. P (a ∷ b ∷ c ∷ d ∷ e ∷ f ∷ g ∷ h ∷ i ∷ j ∷ k ∷ l ∷ x)) (λ m n o p.
    no_more _ (all a b c d e f g h i j k l m n o p)))))

pub spelled : (x : List ℕ) → length x ≡ 16
    → slice_index x 0 ∷ slice_index x 1 ∷ slice_index x 2 ∷ slice_index x 3
    ∷ slice_index x 4 ∷ slice_index x 5 ∷ slice_index x 6 ∷ slice_index x 7
    ∷ slice_index x 8 ∷ slice_index x 9 ∷ slice_index x 10 ∷ slice_index x 11
    ∷ slice_index x 12 ∷ slice_index x 13 ∷ slice_index x 14 ∷ slice_index x 15 ∷ [] ≡ x
spelled = sixteen _ (λ a b c d e f g h i j k l m n o p. refl)

-- replacing the four columns one after another is the step on columns
pub with_columns : (f : Words → Words) (x : List ℕ) → length x ≡ 16
    → with_line f (with_line f (with_line f (with_line f x 0 4 8 12) 1 5 9 13) 2 6 10 14) 3 7 11 15 ≡ on_columns f x
unfolding on_columns
with_columns f =
    sixteen (λ x. with_line f (with_line f (with_line f (with_line f x 0 4 8 12) 1 5 9 13) 2 6 10 14) 3 7 11 15 ≡ on_columns f x)
    (λ a b c d e f g h i j k l m n o p. refl)

-- the same for the diagonals
pub with_diagonals : (f : Words → Words) (x : List ℕ) → length x ≡ 16
    → with_line f (with_line f (with_line f (with_line f x 0 5 10 15) 1 6 11 12) 2 7 8 13) 3 4 9 14 ≡ on_diagonals f x
unfolding on_diagonals
with_diagonals f =
    sixteen (λ x. with_line f (with_line f (with_line f (with_line f x 0 5 10 15) 1 6 11 12) 2 7 8 13) 3 4 9 14 ≡ on_diagonals f x)
    (λ a b c d e f g h i j k l m n o p. refl)

-- matrices made from equal lines are equal
pub of_four : {A : Type 0} (of : Words → Words → Words → Words → A) (p p' q q' r r' s s' : Words)
    → p ≡ p' → q ≡ q' → r ≡ r' → s ≡ s' → of p q r s ≡ of p' q' r' s'
of_four of p p' q q' r r' s s' hp hq hr hs = cc
