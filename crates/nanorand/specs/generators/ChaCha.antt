-- ChaCha as a generator. Its state is a matrix of sixteen 32-bit words, of which words 12 and 13
-- (counted from 0) are the block counter.
use Rattle.std.specs.Prelude.{ℕ, zero, suc, ◌+◌, ◌*◌, ◌/◌, ◌%◌, ◌^◌, List, [], ◌∷◌, ◌++◌, take, drop, codes, slice_index, slice_range, slice_set}
use Rattle.std.specs.Int.{w32, from_le_bytes, to_le_bytes}
use Rattle.std.specs.List.{flat_map}
use Rattle.nanorand_core.specs.generators.Blocks.{Requests, plain}
use Rattle.nanorand.specs.generators.ChaChaRounds.{block}

-- The 32-bit words of a list of bytes: each word is four bytes, in little-endian order. If one to
-- three bytes are left at the end, they are dropped.
abbrev pub words : List ℕ → List ℕ
words (a ∷ b ∷ c ∷ d ∷ rest) = from_le_bytes w32 (a ∷ b ∷ c ∷ d ∷ []) ∷ words rest
words _ = []

-- The bytes of 32-bit words: each word is four bytes, in little-endian order.
abbrev pub bytes : List ℕ → List ℕ
bytes = flat_map (to_le_bytes w32)

-- The four words at the beginning of every state.
abbrev pub constants : List ℕ
constants = words (codes "expand 32-byte k")

-- The state of a 32-byte key and an 8-byte nonce, with the counter 0.
unfoldable pub initial_state : List ℕ → List ℕ → List ℕ
initial_state key nonce = constants ++ words key ++ (0 ∷ 0 ∷ []) ++ words nonce

-- The state of a 40-byte seed: its first 32 bytes are the key, and the other 8 the nonce.
abbrev pub seeded_state : List ℕ → List ℕ
seeded_state seed = initial_state (take 32 seed) (drop 32 seed)

-- The 64-bit counter of a state: word 12 is its low half, and word 13 its high half.
abbrev pub counter : List ℕ → ℕ
counter x = slice_index x 12 + 2 ^ 32 * slice_index x 13

-- The state with its counter set to n.
abbrev pub with_counter : List ℕ → ℕ → List ℕ
with_counter x n = slice_set (slice_set x 12 (n % 2 ^ 32)) 13 (n / 2 ^ 32)

-- The state of a 32-byte key and an 8-byte nonce, with the counter n.
unfoldable pub state_at : List ℕ → List ℕ → ℕ → List ℕ
state_at key nonce n = with_counter (initial_state key nonce) n

-- The 32 bytes of the key of a state, which is in words 4 to 11.
unfoldable pub key_of : List ℕ → List ℕ
key_of x = bytes (slice_range x 4 12)

-- The 8 bytes of the nonce of a state, which is in words 14 and 15.
unfoldable pub nonce_of : List ℕ → List ℕ
nonce_of x = bytes (slice_range x 14 16)

-- The state n blocks later: n is added to its counter, modulo 2^64.
abbrev pub advanced : ℕ → List ℕ → List ℕ
advanced n x = with_counter x ((counter x + n) % 2 ^ 64)

-- The state after one block. The counter 2^64 - 1 is followed by 0.
abbrev pub next_state : List ℕ → List ℕ
next_state = advanced 1

-- The next block of a state, with R rounds: 64 bytes.
abbrev pub chacha_block : ℕ → List ℕ → List ℕ
chacha_block R x = bytes (block R x)

-- The requests of a ChaCha with R rounds: those of a generator without a buffer, whose blocks have
-- 64 bytes.
abbrev pub chacha_requests : ℕ → Requests (List ℕ)
chacha_requests R = plain (chacha_block R) next_state 64

-- The state after n draws. After 0 draws every list is unchanged, even one that is not a matrix.
abbrev pub chacha_after : ℕ → List ℕ → List ℕ
chacha_after zero x = x
chacha_after (suc n) x = advanced (suc n) x
