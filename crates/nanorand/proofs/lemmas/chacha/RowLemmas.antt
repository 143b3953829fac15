-- Matrices in vectors: rows of four lanes, and four blocks at once.
use Rattle.std.proofs.Common.{◌≡◌, ℕ, zero, suc, ◌+◌, ◌<◌, ◌-◌, ◌*◌, ◌/◌, ◌%◌, ◌^◌, List, [], ◌∷◌, ◌++◌, length}
use Rattle.std.proofs.Common.{slice_index, slice_index_or, map, replicate, bit_or, bit_xor, arith, lit<, refl, sym}
use Rattle.std.proofs.Common.{ap, ◌∙◌}
use Rattle.std.specs.List.{range_with_len}
use Rattle.std.specs.Fn.{iterate}
use Rattle.std.specs.Simd.Lanes.{zip2}
use Rattle.nanorand.specs.generators.ChaCha.{next_state, chacha_after}
use Rattle.nanorand.specs.support.ChaChaDrawLemmas.{chacha_steps}
use Rattle.nanorand.specs.generators.ChaChaRounds.{Words, add, xor_rotate, on_columns, on_diagonals, rounds, block}
use Rattle.nanorand.specs.support.ChaChaRows.{Four, matrix, row_of, matrix_of}

-- a property that holds for each of the four lanes holds for every lane
pub below_four : (P : ℕ → Type 0) → P 0 → P 1 → P 2 → P 3 → (j : ℕ) → j < 4 → P j
below_four P p0 p1 p2 p3 zero h = p0
below_four P p0 p1 p2 p3 (suc zero) h = p1
below_four P p0 p1 p2 p3 (suc (suc zero)) h = p2
below_four P p0 p1 p2 p3 (suc (suc (suc zero))) h = p3
below_four P p0 p1 p2 p3 (suc (suc (suc (suc n)))) h = absurd (omega arith)

-- a property that holds for each of the eight lanes holds for every lane
pub below_eight : (P : ℕ → Type 0) → P 0 → P 1 → P 2 → P 3 → P 4 → P 5 → P 6 → P 7 → (j : ℕ) → j < 8 → P j
below_eight P p0 p1 p2 p3 p4 p5 p6 p7 (suc (suc (suc (suc j)))) h =
    below_four (λ k. P (suc (suc (suc (suc k))))) p4 p5 p6 p7 j (omega (arith, h))
below_eight P p0 p1 p2 p3 p4 p5 p6 p7 zero h = p0
below_eight P p0 p1 p2 p3 p4 p5 p6 p7 (suc zero) h = p1
below_eight P p0 p1 p2 p3 p4 p5 p6 p7 (suc (suc zero)) h = p2
below_eight P p0 p1 p2 p3 p4 p5 p6 p7 (suc (suc (suc zero))) h = p3

-- if four rows equal four others, so do the rows one after another
pub same_rows : {a b c d p q r s : List ℕ} → a ≡ p → b ≡ q → c ≡ r → d ≡ s → a ++ b ++ c ++ d ≡ p ++ q ++ r ++ s
same_rows first second third fourth = cc

-- if sixteen words equal sixteen others, so do the lists of them
pub same_words : {a0 a1 a2 a3 a4 a5 a6 a7 a8 a9 a10 a11 a12 a13 a14 a15 b0 b1 b2 b3 b4 b5 b6 b7 b8 b9 b10 b11 b12 b13
    b14 b15 : ℕ} → a0 ≡ b0 → a1 ≡ b1 → a2 ≡ b2 → a3 ≡ b3 → a4 ≡ b4 → a5 ≡ b5 → a6 ≡ b6 → a7 ≡ b7 → a8 ≡ b8 → a9 ≡ b9
    → a10 ≡ b10 → a11 ≡ b11 → a12 ≡ b12 → a13 ≡ b13 → a14 ≡ b14 → a15 ≡ b15
    → a0 ∷ a1 ∷ a2 ∷ a3 ∷ a4 ∷ a5 ∷ a6 ∷ a7 ∷ a8 ∷ a9 ∷ a10 ∷ a11 ∷ a12 ∷ a13 ∷ a14 ∷ a15 ∷ [] ≡ b0 ∷ b1 ∷ b2 ∷ b3
    ∷ b4 ∷ b5 ∷ b6 ∷ b7 ∷ b8 ∷ b9 ∷ b10 ∷ b11 ∷ b12 ∷ b13 ∷ b14 ∷ b15 ∷ []
same_words e0 e1 e2 e3 e4 e5 e6 e7 e8 e9 e10 e11 e12 e13 e14 e15 = cc

-- two shifts and an or of each lane, of k lanes, rotate each lane
pub shifts_rotate : (n : ℕ) → 0 < n → n < 32 → (k : ℕ) (d a : List ℕ) → length d ≡ k → length a ≡ k → (j : ℕ) → j < k
    → slice_index (zip2 bit_or
    (zip2 (λ x m. x * 2 ^ m % 2 ^ 32) (zip2 bit_xor d a) (replicate k n))
    (zip2 (λ x m. x / 2 ^ m) (zip2 bit_xor d a) (replicate k (32 - n)))) j
    ≡ xor_rotate (slice_index d j) (slice_index a j) n
shifts_rotate n low high (suc k) (x ∷ d) (y ∷ a) long_d long_a zero h =
    let left : n % 32 ≡ n = omega arith in
    let right : (32 - n) % 32 ≡ 32 - n = omega arith in
    rw (left, right) refl
shifts_rotate n low high (suc k) (x ∷ d) (y ∷ a) long_d long_a (suc j) h =
    shifts_rotate n low high k d a (omega (arith, long_d)) (omega (arith, long_a)) j (omega (arith, h))
shifts_rotate n low high zero d a long_d long_a j h = absurd (omega (arith, h))
shifts_rotate n low high (suc k) [] a long_d long_a j h = absurd (omega (arith, long_d))
shifts_rotate n low high (suc k) (x ∷ d) [] long_d long_a j h = absurd (omega (arith, long_a))

-- each lane of one row is the sum of that lane in two others
abbrev pub Sums : List ℕ → List ℕ → List ℕ → Type 0
Sums t p a = (j : ℕ) → j < 4 → slice_index t j ≡ add (slice_index p j) (slice_index a j)

rows_summed : (t p a : List (List ℕ))
    → Sums (slice_index_or t 0 []) (slice_index_or p 0 []) (slice_index_or a 0 [])
    → Sums (slice_index_or t 1 []) (slice_index_or p 1 []) (slice_index_or a 1 [])
    → Sums (slice_index_or t 2 []) (slice_index_or p 2 []) (slice_index_or a 2 [])
    → Sums (slice_index_or t 3 []) (slice_index_or p 3 []) (slice_index_or a 3 [])
    → matrix t ≡ map (λ k. add (slice_index (matrix p) k) (slice_index (matrix a) k)) (range_with_len 0 16)
rows_summed t p a h0 h1 h2 h3 =
    same_words
    (h0 0 (lit< tt)) (h0 1 (lit< tt)) (h0 2 (lit< tt)) (h0 3 (lit< tt))
    (h1 0 (lit< tt)) (h1 1 (lit< tt)) (h1 2 (lit< tt)) (h1 3 (lit< tt))
    (h2 0 (lit< tt)) (h2 1 (lit< tt)) (h2 2 (lit< tt)) (h2 3 (lit< tt))
    (h3 0 (lit< tt)) (h3 1 (lit< tt)) (h3 2 (lit< tt)) (h3 3 (lit< tt))

-- the rows of the matrix after R rounds plus the rows of the matrix make the block
pub rows_block : (R : ℕ) (t p a : List (List ℕ)) → matrix p ≡ rounds R (matrix a)
    → Sums (slice_index_or t 0 []) (slice_index_or p 0 []) (slice_index_or a 0 [])
    → Sums (slice_index_or t 1 []) (slice_index_or p 1 []) (slice_index_or a 1 [])
    → Sums (slice_index_or t 2 []) (slice_index_or p 2 []) (slice_index_or a 2 [])
    → Sums (slice_index_or t 3 []) (slice_index_or p 3 []) (slice_index_or a 3 [])
    → matrix t ≡ block R (matrix a)
unfolding block
rows_block R t p a mixed h0 h1 h2 h3 =
    rows_summed t p a h0 h1 h2 h3
    ∙ ap (λ (m : List ℕ). map (λ k. add (slice_index m k) (slice_index (matrix a) k)) (range_with_len 0 16)) mixed

-- the matrix with its rows rotated so that each diagonal becomes a column
abbrev pub slanted : List ℕ → List ℕ
slanted x =
    slice_index x 0 ∷ slice_index x 1 ∷ slice_index x 2 ∷ slice_index x 3
    ∷ slice_index x 5 ∷ slice_index x 6 ∷ slice_index x 7 ∷ slice_index x 4
    ∷ slice_index x 10 ∷ slice_index x 11 ∷ slice_index x 8 ∷ slice_index x 9
    ∷ slice_index x 15 ∷ slice_index x 12 ∷ slice_index x 13 ∷ slice_index x 14 ∷ []

-- the matrix with its rows rotated back
abbrev pub upright : List ℕ → List ℕ
upright x =
    slice_index x 0 ∷ slice_index x 1 ∷ slice_index x 2 ∷ slice_index x 3
    ∷ slice_index x 7 ∷ slice_index x 4 ∷ slice_index x 5 ∷ slice_index x 6
    ∷ slice_index x 10 ∷ slice_index x 11 ∷ slice_index x 8 ∷ slice_index x 9
    ∷ slice_index x 13 ∷ slice_index x 14 ∷ slice_index x 15 ∷ slice_index x 12 ∷ []

-- each lane of one row is the lane n further on in another; the first lane follows the last
abbrev Rotated : ℕ → List ℕ → List ℕ → Type 0
Rotated n t row = (j : ℕ) → j < 4 → slice_index t j ≡ slice_index row ((n + j) % 4)

pub rows_slanted : (rows : List (List ℕ)) (b c d : List ℕ)
    → Rotated 1 b (slice_index_or rows 1 []) → Rotated 2 c (slice_index_or rows 2 []) → Rotated 3 d (slice_index_or rows 3 [])
    → matrix (slice_index_or rows 0 [] ∷ b ∷ c ∷ d ∷ []) ≡ slanted (matrix rows)
rows_slanted rows b c d hb hc hd =
    rw (
      hb 0 (lit< tt),
      hb 1 (lit< tt),
      hb 2 (lit< tt),
      hb 3 (lit< tt),
      hc 0 (lit< tt),
      hc 1 (lit< tt),
      hc 2 (lit< tt),
      hc 3 (lit< tt),
      hd 0 (lit< tt),
      hd 1 (lit< tt),
      hd 2 (lit< tt),
      hd 3 (lit< tt),
    ) refl

pub rows_upright : (rows : List (List ℕ)) (b c d : List ℕ)
    → Rotated 3 b (slice_index_or rows 1 []) → Rotated 2 c (slice_index_or rows 2 []) → Rotated 1 d (slice_index_or rows 3 [])
    → matrix (slice_index_or rows 0 [] ∷ b ∷ c ∷ d ∷ []) ≡ upright (matrix rows)
rows_upright rows b c d hb hc hd =
    rw (
      hb 0 (lit< tt),
      hb 1 (lit< tt),
      hb 2 (lit< tt),
      hb 3 (lit< tt),
      hc 0 (lit< tt),
      hc 1 (lit< tt),
      hc 2 (lit< tt),
      hc 3 (lit< tt),
      hd 0 (lit< tt),
      hd 1 (lit< tt),
      hd 2 (lit< tt),
      hd 3 (lit< tt),
    ) refl

pub upright-columns : (f : Words → Words) (x m : List ℕ) → m ≡ on_columns f (slanted x) → upright m ≡ on_diagonals f x
unfolding on_columns on_diagonals
upright-columns f x m h = ap upright h

-- The rows of a matrix after R rounds plus its own rows are its block.
pub rows_summed_block : {V : Type 0} (word : V → ℕ) (R : ℕ) (m x : Four (Four V)) {p q r s : List ℕ}
    → matrix_of word m ≡ rounds R (matrix_of word x)
    → p ≡ zip2 add (row_of word m.0) (row_of word x.0)
    → q ≡ zip2 add (row_of word m.1) (row_of word x.1)
    → r ≡ zip2 add (row_of word m.2) (row_of word x.2)
    → s ≡ zip2 add (row_of word m.3) (row_of word x.3)
    → p ++ q ++ r ++ s ≡ block R (matrix_of word x)
unfolding block
rows_summed_block word R m x mixed first second third fourth =
    same_rows first second third fourth
    ∙ ap (λ (y : List ℕ). map (λ k. add (slice_index y k) (slice_index (matrix_of word x) k)) (range_with_len 0 16)) mixed

-- lane j, if it is the block of the state after j draws
pub lane_block : (R j : ℕ) (x m a : List ℕ) → m ≡ block R a → a ≡ chacha_after j x → m ≡ block R (iterate next_state j x)
lane_block R j x m a made drawn = made ∙ ap (block R) (drawn ∙ sym (chacha_steps j x))
