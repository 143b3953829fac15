-- The rounds of ChaCha and its block, after Daniel J. Bernstein ("ChaCha, a variant of Salsa20",
-- 2008). Here a word is a 32-bit word, that is, a number below 2^32, and a matrix is the list of
-- its sixteen words, row by row.
use Rattle.std.specs.Prelude.{◌≡◌, ℕ, ◌+◌, ◌/◌, ◌%◌, ◌^◌, ◌<◌, List, [], ◌∷◌, length, map, bit_xor, slice_index}
use Rattle.std.specs.Fn.{iterate}
use Rattle.std.specs.Int.{w32, rotate_left}
use Rattle.std.specs.List.{range_with_len}

-- Four 32-bit words.
abbrev pub Words : Type 0
Words = ℕ × ℕ × ℕ × ℕ

-- The sum of two words, modulo 2^32.
abbrev pub add : ℕ → ℕ → ℕ
add a b = (a + b) % 2 ^ 32

-- The xor of d and a, rotated left by n bits.
abbrev pub xor_rotate : ℕ → ℕ → ℕ → ℕ
xor_rotate d a n = rotate_left w32 (bit_xor d a) n

-- The quarter round of the words a, b, c and d.
unfoldable pub quarter_round : Words → Words
quarter_round (a, b, c, d) =
    let a' = add a b in
    let d' = xor_rotate d a' 16 in
    let c' = add c d' in
    let b' = xor_rotate b c' 12 in
    let a'' = add a' b' in
    let d'' = xor_rotate d' a'' 8 in
    let c'' = add c' d'' in
    let b'' = xor_rotate b' c'' 7 in
    (a'', b'', c'', d'')

-- f applied to the four words of a matrix at the indices a, b, c and d.
abbrev pub line : (Words → Words) → List ℕ → ℕ → ℕ → ℕ → ℕ → Words
line f x a b c d = f (slice_index x a, slice_index x b, slice_index x c, slice_index x d)

-- The matrix with these four columns, from left to right.
abbrev pub of_columns : Words → Words → Words → Words → List ℕ
of_columns p q r s =
    p.0 ∷ q.0 ∷ r.0 ∷ s.0
    ∷ p.1 ∷ q.1 ∷ r.1 ∷ s.1
    ∷ p.2 ∷ q.2 ∷ r.2 ∷ s.2
    ∷ p.3 ∷ q.3 ∷ r.3 ∷ s.3 ∷ []

-- The matrix with these four diagonals. Each begins in the top row and goes down and right,
-- wrapping from the last column to the first.
abbrev pub of_diagonals : Words → Words → Words → Words → List ℕ
of_diagonals p q r s =
    p.0 ∷ q.0 ∷ r.0 ∷ s.0
    ∷ s.1 ∷ p.1 ∷ q.1 ∷ r.1
    ∷ r.2 ∷ s.2 ∷ p.2 ∷ q.2
    ∷ q.3 ∷ r.3 ∷ s.3 ∷ p.3 ∷ []

-- f applied to each of the four columns of a matrix.
unfoldable pub on_columns : (Words → Words) → List ℕ → List ℕ
on_columns f x =
    of_columns (line f x 0 4 8 12) (line f x 1 5 9 13) (line f x 2 6 10 14) (line f x 3 7 11 15)

-- f applied to each of the four diagonals of a matrix.
unfoldable pub on_diagonals : (Words → Words) → List ℕ → List ℕ
on_diagonals f x =
    of_diagonals (line f x 0 5 10 15) (line f x 1 6 11 12) (line f x 2 7 8 13) (line f x 3 4 9 14)

-- A double round: the quarter round of each column, and then of each diagonal.
abbrev pub pair_of_rounds : List ℕ → List ℕ
pair_of_rounds x = on_diagonals quarter_round (on_columns quarter_round x)

-- R rounds, for an even R: R / 2 double rounds.
unfoldable pub rounds : ℕ → List ℕ → List ℕ
rounds R x = iterate pair_of_rounds (R / 2) x

-- The block of a matrix, as words: the matrix after R rounds plus the matrix itself, word by word,
-- modulo 2^32. It has sixteen words, whatever the list is.
unfoldable pub block : ℕ → List ℕ → List ℕ
block R x = map (λ k. add (slice_index (rounds R x) k) (slice_index x k)) (range_with_len 0 16)

-- A list is a matrix: it has sixteen words, each below 2^32. (`slice_index` beyond the end of a
-- list is 0.)
pub record IsMatrix (x : List ℕ) : Type 0 where
  pub sixteen : length x ≡ 16
  pub words : (k : ℕ) → slice_index x k < 2 ^ 32

-- R rounds are injective on matrices, for every even R.
abbrev pub RoundsAreInjective : Type 0
RoundsAreInjective =
    (R : ℕ) (x y : List ℕ) → R % 2 ≡ 0 → IsMatrix x → IsMatrix y → rounds R x ≡ rounds R y → x ≡ y
