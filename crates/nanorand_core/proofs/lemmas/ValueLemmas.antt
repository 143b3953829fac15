-- Values drawn one after another, in two parts, and the number of eight bytes.
use Rattle.std.proofs.Common.{◌≡◌, ℕ, zero, suc, ◌+◌, ◌*◌, ◌<◌, List, [], ◌∷◌, ◌++◌, length, drop, ap, ◌∙◌, arith, w64}
use Rattle.std.proofs.Math.Nat.{zero-add, suc-add}
use Rattle.std.proofs.Math.Seq.{drop-cons}
use Rattle.std.proofs.lemmas.List.{drop_all}
use Rattle.std.specs.Fn.{iterate}
use Rattle.std.specs.Int.{from_le_bytes}
use Rattle.std.specs.List.{slice_index}
use Rattle.nanorand_core.specs.values.Values.{number_of, values_from}

-- the number of the bytes from index i on: the byte at i, and the number of those after it
number_from : (bytes : List ℕ) (i : ℕ) → i < length bytes
    → number_of (drop i bytes) ≡ slice_index bytes i + 256 * number_of (drop (suc i) bytes)
number_from bytes i within = ap number_of (drop-cons bytes i 0 within)

pub number_of_8 : (bytes : List ℕ) → length bytes ≡ 8 → from_le_bytes w64 bytes ≡ number_of bytes
number_of_8 bytes size =
    let at = λ (i : ℕ) (within : i < 8). number_from bytes i (omega (arith, size, within)) in
    omega (
      arith,
      at 0 (omega arith),
      at 1 (omega arith),
      at 2 (omega arith),
      at 3 (omega arith),
      at 4 (omega arith),
      at 5 (omega arith),
      at 6 (omega arith),
      at 7 (omega arith),
      ap number_of (drop_all 8 bytes (omega (arith, size))),
    )

module _ {G T : Type 0} (value : G → T) (after : G → G) where
  pub values_from-add : (m n : ℕ) (g : G)
      → values_from value after (m + n) g ≡ values_from value after m g ++ values_from value after n (iterate after m g)
  values_from-add zero n g = ap (λ (k : ℕ). values_from value after k g) (zero-add n)
  values_from-add (suc m) n g =
      ap (λ (k : ℕ). values_from value after k g) (suc-add m n)
      ∙ ap (λ (rest : List T). value g ∷ rest) (values_from-add m n (after g))

  pub values_from-more : (n : ℕ) (g : G)
      → values_from value after (n + 1) g ≡ values_from value after n g ++ (value (iterate after n g) ∷ [])
  values_from-more n g = values_from-add n 1 g
