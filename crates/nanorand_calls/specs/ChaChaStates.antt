-- The states of ChaCha and of its streams, as they are stored in the caller's memory.
use Rattle.std.specs.Prelude.{ℕ, ◌-◌, List, [], drop, min}
use Rattle.nanorand_core.specs.generators.Blocks.{Requests}
use Rattle.nanorand_replay.specs.generators.Buffered.{Buffered, buffer_of, buffered}
use Rattle.nanorand.specs.generators.ChaCha.{chacha_block, next_state, state_at}
use Rattle.nanorand.specs.generators.ChaChaGroups as groups
use Rattle.nanorand_calls.specs.declared.chacha.ChaChaState.{ChaChaState}
use Rattle.nanorand_calls.specs.declared.keystream.GroupStream.{GroupStream}
use Rattle.nanorand_calls.specs.declared.stream.Stream.{Stream}

-- The ChaCha state with this key, nonce and counter.
abbrev pub chacha_at : ChaChaState → List ℕ
chacha_at state = state_at state.key state.nonce state.counter

-- A stream that starts at the next block of a ChaCha state: nothing is buffered.
abbrev pub fresh_stream : List ℕ → Buffered (List ℕ)
fresh_stream state = buffer_of [] state

-- The stream that is stored: the last `buffered` bytes of the block are buffered, at most 63.
abbrev pub stream_at : Stream → Buffered (List ℕ)
stream_at stream =
    buffer_of (drop (64 - min 63 stream.buffered) stream.block) (chacha_at stream.chacha)

-- The requests of a stream: requests of ChaCha with 20 rounds, without gaps between them.
abbrev pub stream_requests : Requests (Buffered (List ℕ))
stream_requests = buffered (chacha_block 20) next_state 64

-- The stream that is stored: the last `buffered` bytes of the group are buffered, at most 511.
abbrev pub groups_at : GroupStream → Buffered (List ℕ)
groups_at stream =
    buffer_of (drop (512 - min 511 stream.buffered) stream.group) (chacha_at stream.chacha)

-- The requests of a stream that draws eight blocks of ChaCha with 20 rounds at once.
abbrev pub by_groups : Requests (Buffered (List ℕ))
by_groups = groups.stream_requests 20
