-- ChaCha in groups of eight blocks: a generator whose block is the next eight blocks of ChaCha in a
-- row. Its state is that of ChaCha. A stream is such a generator with a buffer.
use Rattle.std.specs.Prelude.{◌≡◌, ℕ, ◌+◌, ◌-◌, ◌*◌, ◌%◌, ◌^◌, List, [], length}
use Rattle.std.specs.Fn.{iterate}
use Rattle.nanorand_core.specs.generators.Blocks.{Requests, blocks, plain}
use Rattle.nanorand_replay.specs.generators.Buffered.{Buffered, buffer_of, buffered}
use Rattle.nanorand_replay.specs.replay.Unbroken.{after_all}
use Rattle.nanorand.specs.generators.ChaCha.{chacha_block, counter, next_state, with_counter}

-- The next eight blocks of a state, with R rounds: 512 bytes.
unfoldable pub chacha_group : ℕ → List ℕ → List ℕ
chacha_group R x = blocks (chacha_block R) next_state x 8

-- The state after these eight blocks.
unfoldable pub next_group : List ℕ → List ℕ
next_group x = iterate next_state 8 x

-- The requests of a generator of groups: those of a generator without a buffer, whose blocks have
-- 512 bytes.
abbrev pub group_requests : ℕ → Requests (List ℕ)
group_requests R = plain (chacha_group R) next_group 512

-- The requests of a stream: those of the groups with a buffer.
abbrev pub stream_requests : ℕ → Requests (Buffered (List ℕ))
stream_requests R = buffered (chacha_group R) next_group 512

-- The stream at its byte 0: the counter is 0, and the buffer is empty.
abbrev pub stream_start : Buffered (List ℕ) → Buffered (List ℕ)
stream_start b = buffer_of [] (with_counter b.inner 0)

-- The number of a stream's next byte, modulo 2^70. It is the number of bytes before the block that
-- the counter names, minus the number of buffered bytes.
abbrev pub stream_position : Buffered (List ℕ) → ℕ
stream_position b = (counter b.inner * 64 + 2 ^ 70 - length b.rest) % 2 ^ 70

-- Two generators in these states deliver the same bytes: after requests of any sizes, the next
-- request takes the same bytes from both.
abbrev pub DeliverAlike : {G H : Type 0} → Requests G → G → Requests H → H → Type 0
DeliverAlike requests g others h =
    (sizes : List ℕ) (n : ℕ)
    → requests.bytes (after_all requests g sizes) n ≡ others.bytes (after_all others h sizes) n
