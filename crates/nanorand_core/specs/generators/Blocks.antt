-- A generator as a stream of blocks of bytes, and the bytes that a request takes from it. A request
-- is one read of n bytes.
use Rattle.std.specs.Prelude.{ℕ, zero, suc, List, [], ◌++◌, take}
use Rattle.std.specs.Fn.{iterate}
use Rattle.std.specs.Int.{div_ceil}

-- The first n blocks from a state, concatenated. `block` is the next block of a state, and `step`
-- the state after it.
abbrev pub blocks : {G : Type 0} → (G → List ℕ) → (G → G) → G → ℕ → List ℕ
blocks block step g zero = []
blocks block step g (suc n) = block g ++ blocks block step (step g) n

-- The bytes that a request of n bytes delivers: the first n bytes of the first n blocks. A block
-- has at least one byte, so n blocks are enough.
unfoldable pub taken : {G : Type 0} → (G → List ℕ) → (G → G) → G → ℕ → List ℕ
taken block step g n = take n (blocks block step g n)

-- The state after a request of n bytes to a generator without a buffer (a plain generator), whose
-- blocks have `output` bytes. Each request starts with a new block and drops the unused bytes of
-- its last one.
abbrev pub plain_after : {G : Type 0} → (G → G) → ℕ → G → ℕ → G
plain_after step output g n = iterate step (div_ceil n output) g

-- The requests of a generator: `bytes g n` is what a request of n bytes takes in state g, and
-- `after g n` the state that it leaves.
pub record Requests (G : Type 0) : Type 0 where
  pub bytes : G → ℕ → List ℕ
  pub after : G → ℕ → G

-- The requests of a plain generator whose blocks have `output` bytes.
abbrev pub plain : {G : Type 0} → (G → List ℕ) → (G → G) → ℕ → Requests G
plain block step output = record { bytes = taken block step; after = plain_after step output }
