-- The number of the bytes of a seed.
use Rattle.std.proofs.Common.{◌≡◌, ℕ, suc, ◌+◌, ◌*◌, ◌<◌, List, length, drop, arith, ap, w64}
use Rattle.std.proofs.Math.Seq.{drop-cons}
use Rattle.std.proofs.lemmas.List.{drop_all}
use Rattle.std.specs.List.{slice_index}
use Rattle.std.specs.Int.{w128, from_le_bytes}
use Rattle.nanorand_core.specs.values.Values.{number_of}

-- the number of the bytes from index i on: the byte at i, and the number of those after it
number_from : (bs : List ℕ) (i : ℕ) → i < length bs → number_of (drop i bs) ≡ slice_index bs i + 256 * number_of (drop (suc i) bs)
number_from bs i h = ap number_of (drop-cons bs i 0 h)

pub number_of_8 : (bs : List ℕ) → length bs ≡ 8 → from_le_bytes w64 bs ≡ number_of bs
number_of_8 bs h =
    let at = λ (i : ℕ) (within : i < 8). number_from bs i (omega (arith, h, within)) in
    omega (
      arith,
      at 0 (omega arith),
      at 1 (omega arith),
      at 2 (omega arith),
      at 3 (omega arith),
      at 4 (omega arith),
      at 5 (omega arith),
      at 6 (omega arith),
      at 7 (omega arith),
      ap number_of (drop_all 8 bs (omega (arith, h))),
    )

pub number_of_16 : (bs : List ℕ) → length bs ≡ 16 → from_le_bytes w128 bs ≡ number_of bs
number_of_16 bs h =
    let at = λ (i : ℕ) (within : i < 16). number_from bs i (omega (arith, h, within)) in
    omega (
      arith,
      at 0 (omega arith),
      at 1 (omega arith),
      at 2 (omega arith),
      at 3 (omega arith),
      at 4 (omega arith),
      at 5 (omega arith),
      at 6 (omega arith),
      at 7 (omega arith),
      at 8 (omega arith),
      at 9 (omega arith),
      at 10 (omega arith),
      at 11 (omega arith),
      at 12 (omega arith),
      at 13 (omega arith),
      at 14 (omega arith),
      at 15 (omega arith),
      ap number_of (drop_all 16 bs (omega (arith, h))),
    )
