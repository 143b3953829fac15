-- The quarter round and its inverse, on four words and on matrices.
use Rattle.std.proofs.Common.{◌≡◌, ℕ, zero, suc, ◌/◌, ◌^◌, ◌<◌, List, [], ◌∷◌, slice_index, lit<, refl, sym, ap, ◌∙◌}
use Rattle.std.specs.Fn.{iterate}
use Rattle.nanorand.specs.generators.ChaChaRounds.{Words, add, xor_rotate, quarter_round, of_columns, of_diagonals}
use Rattle.nanorand.specs.generators.ChaChaRounds.{on_columns, on_diagonals, pair_of_rounds, rounds, IsMatrix}
use Rattle.nanorand.specs.generators.ChaChaRounds.{RoundsAreInjective}
use Rattle.nanorand.specs.support.ChaChaInverse.{subtract, rotate_xor, unquarter_round}
use Rattle.nanorand.proofs.lemmas.chacha.MatrixLemmas.{sixteen, of_four}
use Rattle.nanorand.proofs.lemmas.chacha.QuarterLemmas.{by_16, by_12, by_8, by_7, subtract-add, add-subtract}
use Rattle.nanorand.proofs.lemmas.chacha.QuarterLemmas.{rotate_xor-xor_rotate, xor_rotate-rotate_xor, add-lt}
use Rattle.nanorand.proofs.lemmas.chacha.QuarterLemmas.{subtract-lt, xor_rotate-lt, rotate_xor-lt}

-- four 32-bit words: numbers below 2 ^ 32
pub record AreWords (w : Words) : Type 0 where
  pub a : w.0 < 2 ^ 32
  pub b : w.1 < 2 ^ 32
  pub c : w.2 < 2 ^ 32
  pub d : w.3 < 2 ^ 32

quarter_round-words : (w : Words) → AreWords w → AreWords (quarter_round w)
unfolding quarter_round
quarter_round-words (a, b, c, d) h =
    let a1 = add a b in
    let d1 = xor_rotate d a1 16 in
    let c1 = add c d1 in
    let b1 = xor_rotate b c1 12 in
    let a2 = add a1 b1 in
    let d2 = xor_rotate d1 a2 8 in
    let c2 = add c1 d2 in
    let fits_d1 : d1 < 2 ^ 32 = xor_rotate-lt d a1 16 h.d (add-lt a b) in
    let fits_b1 : b1 < 2 ^ 32 = xor_rotate-lt b c1 12 h.b (add-lt c d1) in
    record {
      a = add-lt a1 b1;
      b = xor_rotate-lt b1 c2 7 fits_b1 (add-lt c1 d2);
      c = add-lt c1 d2;
      d = xor_rotate-lt d1 a2 8 fits_d1 (add-lt a1 b1);
    }

unquarter_round-quarter_round : (w : Words) → AreWords w → unquarter_round (quarter_round w) ≡ w
unfolding quarter_round unquarter_round
unquarter_round-quarter_round (a, b, c, d) h =
    let a1 = add a b in
    let d1 = xor_rotate d a1 16 in
    let c1 = add c d1 in
    let b1 = xor_rotate b c1 12 in
    let a2 = add a1 b1 in
    let d2 = xor_rotate d1 a2 8 in
    let c2 = add c1 d2 in
    let fits_d1 : d1 < 2 ^ 32 = xor_rotate-lt d a1 16 h.d (add-lt a b) in
    let fits_b1 : b1 < 2 ^ 32 = xor_rotate-lt b c1 12 h.b (add-lt c d1) in
    let fits_d2 : d2 < 2 ^ 32 = xor_rotate-lt d1 a2 8 fits_d1 (add-lt a1 b1) in
    rw (
      rotate_xor-xor_rotate b1 c2 7 by_7 fits_b1 (add-lt c1 d2),
      subtract-add c1 d2 (add-lt c d1) fits_d2,
      rotate_xor-xor_rotate d1 a2 8 by_8 fits_d1 (add-lt a1 b1),
      subtract-add a1 b1 (add-lt a b) fits_b1,
      rotate_xor-xor_rotate b c1 12 by_12 h.b (add-lt c d1),
      subtract-add c d1 h.c fits_d1,
      rotate_xor-xor_rotate d a1 16 by_16 h.d (add-lt a b),
      subtract-add a b h.a h.b,
    ) refl

quarter_round-unquarter_round : (w : Words) → AreWords w → quarter_round (unquarter_round w) ≡ w
unfolding quarter_round unquarter_round
quarter_round-unquarter_round (a2, b2, c2, d2) h =
    let b1 = rotate_xor b2 c2 7 in
    let c1 = subtract c2 d2 in
    let d1 = rotate_xor d2 a2 8 in
    let a1 = subtract a2 b1 in
    let b = rotate_xor b1 c1 12 in
    let c = subtract c1 d1 in
    let d = rotate_xor d1 a1 16 in
    let fits_b1 : b1 < 2 ^ 32 = rotate_xor-lt b2 c2 7 h.b h.c in
    let fits_d1 : d1 < 2 ^ 32 = rotate_xor-lt d2 a2 8 h.d h.a in
    let fits_b : b < 2 ^ 32 = rotate_xor-lt b1 c1 12 fits_b1 (subtract-lt c2 d2) in
    rw (
      add-subtract a1 b (subtract-lt a2 b1) fits_b,
      xor_rotate-rotate_xor d1 a1 16 by_16 fits_d1,
      add-subtract c1 d1 (subtract-lt c2 d2) fits_d1,
      xor_rotate-rotate_xor b1 c1 12 by_12 fits_b1,
      add-subtract a2 b1 h.a fits_b1,
      xor_rotate-rotate_xor d2 a2 8 by_8 h.d,
      add-subtract c2 d2 h.c h.d,
      xor_rotate-rotate_xor b2 c2 7 by_7 h.b,
    ) refl

-- g undoes f on 32-bit words
abbrev Undoes : (Words → Words) → (Words → Words) → Type 0
Undoes g f = (w : Words) → AreWords w → g (f w) ≡ w

abbrev KeepsWords : (Words → Words) → Type 0
KeepsWords f = (w : Words) → AreWords w → AreWords (f w)

-- the words of a line of a matrix are 32-bit words
line_words : (x : List ℕ) → IsMatrix x → (a b c d : ℕ)
    → AreWords (slice_index x a, slice_index x b, slice_index x c, slice_index x d)
line_words x h a b c d = record { a = h.words a; b = h.words b; c = h.words c; d = h.words d }

columns_undone : (g f : Words → Words) → Undoes g f → (x : List ℕ) → IsMatrix x → on_columns g (on_columns f x) ≡ x
unfolding on_columns
columns_undone g f undoes x h =
    sixteen (λ x. IsMatrix x → on_columns g (on_columns f x) ≡ x)
    (λ a b c d e f' g' h' i j k l m n o p matrix.
    let words = line_words _ matrix in
    of_four of_columns _ (a, e, i, m) _ (b, f', j, n) _ (c, g', k, o) _ (d, h', l, p)
    (undoes (a, e, i, m) (words 0 4 8 12)) (undoes (b, f', j, n) (words 1 5 9 13))
    (undoes (c, g', k, o) (words 2 6 10 14)) (undoes (d, h', l, p) (words 3 7 11 15)))
    x h.sixteen h

diagonals_undone : (g f : Words → Words) → Undoes g f → (x : List ℕ) → IsMatrix x → on_diagonals g (on_diagonals f x) ≡ x
unfolding on_diagonals
diagonals_undone g f undoes x h =
    sixteen (λ x. IsMatrix x → on_diagonals g (on_diagonals f x) ≡ x)
    (λ a b c d e f' g' h' i j k l m n o p matrix.
    let words = line_words _ matrix in
    of_four of_diagonals _ (a, f', k, p) _ (b, g', l, m) _ (c, h', i, n) _ (d, e, j, o)
    (undoes (a, f', k, p) (words 0 5 10 15)) (undoes (b, g', l, m) (words 1 6 11 12))
    (undoes (c, h', i, n) (words 2 7 8 13)) (undoes (d, e, j, o) (words 3 4 9 14)))
    x h.sixteen h

-- every number of a list is below 2 ^ 32
abbrev AllWords : List ℕ → Type 0
AllWords [] = Unit {0}
AllWords (a ∷ x) = (a < 2 ^ 32) × AllWords x

each_word : (x : List ℕ) → AllWords x → (k : ℕ) → slice_index x k < 2 ^ 32
each_word [] h k = lit< tt
each_word (a ∷ x) h zero = h.0
each_word (a ∷ x) h (suc k) = each_word x h.1 k

columns-matrix : (f : Words → Words) → KeepsWords f → (x : List ℕ) → IsMatrix x → IsMatrix (on_columns f x)
unfolding on_columns
columns-matrix f keeps x h =
    let p = keeps _ (line_words x h 0 4 8 12) in
    let q = keeps _ (line_words x h 1 5 9 13) in
    let r = keeps _ (line_words x h 2 6 10 14) in
    let s = keeps _ (line_words x h 3 7 11 15) in
    record {
      sixteen = refl;
      words = each_word (on_columns f x)
          (p.a, (q.a, (r.a, (s.a, (p.b, (q.b, (r.b, (s.b, (p.c, (q.c, (r.c, (s.c, (p.d, (q.d, (r.d, (s.d, tt))))))))))))))));
    }

diagonals-matrix : (f : Words → Words) → KeepsWords f → (x : List ℕ) → IsMatrix x → IsMatrix (on_diagonals f x)
unfolding on_diagonals
diagonals-matrix f keeps x h =
    let p = keeps _ (line_words x h 0 5 10 15) in
    let q = keeps _ (line_words x h 1 6 11 12) in
    let r = keeps _ (line_words x h 2 7 8 13) in
    let s = keeps _ (line_words x h 3 4 9 14) in
    record {
      sixteen = refl;
      words = each_word (on_diagonals f x)
          (p.a, (q.a, (r.a, (s.a, (s.b, (p.b, (q.b, (r.b, (r.c, (s.c, (p.c, (q.c, (q.d, (r.d, (s.d, (p.d, tt))))))))))))))));
    }

-- the inverse of a double round
abbrev unpair : List ℕ → List ℕ
unpair x = on_columns unquarter_round (on_diagonals unquarter_round x)

pair-matrix : (x : List ℕ) → IsMatrix x → IsMatrix (pair_of_rounds x)
pair-matrix x h =
    diagonals-matrix quarter_round quarter_round-words _ (columns-matrix quarter_round quarter_round-words x h)

unpair-pair : (x : List ℕ) → IsMatrix x → unpair (pair_of_rounds x) ≡ x
unpair-pair x h =
    ap (on_columns unquarter_round) (diagonals_undone unquarter_round quarter_round unquarter_round-quarter_round
    _ (columns-matrix quarter_round quarter_round-words x h))
    ∙ columns_undone unquarter_round quarter_round unquarter_round-quarter_round x h

-- the inverse step undoes the step on columns, and the step on diagonals
pub columns-back : (x : List ℕ) → IsMatrix x → on_columns quarter_round (on_columns unquarter_round x) ≡ x
columns-back = columns_undone quarter_round unquarter_round quarter_round-unquarter_round

pub diagonals-back : (x : List ℕ) → IsMatrix x → on_diagonals quarter_round (on_diagonals unquarter_round x) ≡ x
diagonals-back = diagonals_undone quarter_round unquarter_round quarter_round-unquarter_round

-- n double rounds are injective on matrices
pairs_injective : (n : ℕ) (x y : List ℕ) → IsMatrix x → IsMatrix y
    → iterate pair_of_rounds n x ≡ iterate pair_of_rounds n y → x ≡ y
pairs_injective zero x y hx hy same = same
pairs_injective (suc n) x y hx hy same =
    sym (unpair-pair x hx)
    ∙ ap unpair (pairs_injective n (pair_of_rounds x) (pair_of_rounds y) (pair-matrix x hx) (pair-matrix y hy) same)
    ∙ unpair-pair y hy

pub rounds_are_injective : RoundsAreInjective
unfolding rounds
rounds_are_injective R x y even hx hy same = pairs_injective (R / 2) x y hx hy same
