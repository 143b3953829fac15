-- The text that `{:?}` writes for each generator. Numbers after `0x` are lower-case hexadecimal
-- without leading zeros.
use Rattle.std.specs.Prelude.{ℕ, false, List, [], ◌∷◌, codes}
use Rattle.std.specs.Fmt.{digits, decimal}
use Rattle.std.specs.List.{concat}
use Rattle.nanorand.specs.generators.Pcg64.{Generator}

-- The digits of a number as lower-case hexadecimal, without leading zeros.
abbrev pub hexadecimal : ℕ → List ℕ
hexadecimal n = digits 16 false n

-- The text for a WyRand with this seed.
abbrev pub wyrand_debug : ℕ → List ℕ
wyrand_debug seed = concat (codes "WyRand { seed: 0x" ∷ hexadecimal seed ∷ codes " }" ∷ [])

-- The text for a Pcg64.
abbrev pub pcg64_debug : Generator → List ℕ
pcg64_debug g =
    concat (codes "Pcg64 { seed: 0x" ∷ hexadecimal g.seed ∷ codes ", state: 0x"
    ∷ hexadecimal g.state
    ∷ codes ", inc: 0x" ∷ hexadecimal g.inc ∷ codes " }" ∷ [])

-- The text for a ChaCha with this number of rounds and this counter. The name in the text is
-- `ChaCha20` for every number of rounds, as in the Rust crate. The text shows nothing of the key
-- and the nonce.
abbrev pub chacha_debug : ℕ → ℕ → List ℕ
chacha_debug rounds counter =
    concat (codes "ChaCha20 { rounds: " ∷ decimal rounds ∷ codes ", counter: " ∷ decimal counter
    ∷ codes " }" ∷ [])

-- The text for a generator of groups of ChaCha blocks.
abbrev pub chacha_groups_debug : ℕ → ℕ → List ℕ
chacha_groups_debug rounds counter =
    concat (codes "ChaChaGroups { rounds: " ∷ decimal rounds ∷ codes ", counter: "
    ∷ decimal counter
    ∷ codes " }" ∷ [])
