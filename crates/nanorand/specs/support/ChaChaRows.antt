-- A matrix as four rows of four words, and several matrices as sixteen vectors. Not needed to
-- understand the contracts: only clauses of private functions use this file.
use Rattle.std.specs.Prelude.{ℕ, List, [], ◌∷◌, ◌++◌, slice_index, slice_index_or}

-- The four words of a row. A word that the list lacks is 0.
abbrev pub lanes : List ℕ → List ℕ
lanes row = slice_index row 0 ∷ slice_index row 1 ∷ slice_index row 2 ∷ slice_index row 3 ∷ []

-- The last four words of eight.
abbrev pub last_lanes : List ℕ → List ℕ
last_lanes v = slice_index v 4 ∷ slice_index v 5 ∷ slice_index v 6 ∷ slice_index v 7 ∷ []

-- The matrix with these four rows.
abbrev pub matrix : List (List ℕ) → List ℕ
matrix rows =
    lanes (slice_index_or rows 0 []) ++ lanes (slice_index_or rows 1 [])
    ++ lanes (slice_index_or rows 2 []) ++ lanes (slice_index_or rows 3 [])

-- Four values of one kind: the four vectors of a row, or the four rows of a matrix.
abbrev pub Four : Type 0 → Type 0
Four V = V × V × V × V

-- The list of one word of each of four vectors, read by `word`.
abbrev pub row_of : {V : Type 0} → (V → ℕ) → Four V → List ℕ
row_of word (a, b, c, d) = word a ∷ word b ∷ word c ∷ word d ∷ []

-- The same for four times four vectors: if `word` reads lane j, this is the matrix in lane j.
abbrev pub matrix_of : {V : Type 0} → (V → ℕ) → Four (Four V) → List ℕ
matrix_of word (p, q, r, s) = row_of word p ++ row_of word q ++ row_of word r ++ row_of word s

-- The matrix in lane j of sixteen vectors.
abbrev pub lane : ℕ → Four (Four (List ℕ)) → List ℕ
lane j = matrix_of (λ v. slice_index v j)
