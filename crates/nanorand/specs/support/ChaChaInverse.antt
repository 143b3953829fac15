-- The inverse of the quarter round, step by step. Not needed to understand the contracts: only
-- clauses of private functions use this file.
use Rattle.std.specs.Prelude.{ℕ, ◌+◌, ◌-◌, ◌%◌, ◌^◌, bit_xor}
use Rattle.std.specs.Int.{w32, rotate_right}
use Rattle.nanorand.specs.generators.ChaChaRounds.{Words}

-- The difference of two 32-bit words, modulo 2^32.
abbrev pub subtract : ℕ → ℕ → ℕ
subtract a b = (a + (2 ^ 32 - b)) % 2 ^ 32

-- d rotated right by n bits, xor a.
abbrev pub rotate_xor : ℕ → ℕ → ℕ → ℕ
rotate_xor d a n = bit_xor (rotate_right w32 d n) a

-- The inverse of the quarter round: it undoes the steps from the last to the first.
unfoldable pub unquarter_round : Words → Words
unquarter_round (a'', b'', c'', d'') =
    let b' = rotate_xor b'' c'' 7 in
    let c' = subtract c'' d'' in
    let d' = rotate_xor d'' a'' 8 in
    let a' = subtract a'' b' in
    let b = rotate_xor b' c' 12 in
    let c = subtract c' d' in
    let d = rotate_xor d' a' 16 in
    let a = subtract a' b in
    (a, b, c, d)
