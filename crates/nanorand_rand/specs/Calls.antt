-- What the calls of the kit's `rand_core` return for a generator of the library.
use Rattle.rand_core.specs.Steps.{Steps, stream_of}
use Rattle.rand_core.specs.Stream.{Stream}
use Rattle.nanorand_core.specs.generators.Blocks.{Requests}
use Rattle.nanorand_core.specs.values.Values.{number_of}

-- Each call is one request. `next_u32` is the little-endian number of 4 bytes and `next_u64` that
-- of 8 bytes; `fill_bytes` returns the bytes themselves.
abbrev pub request_steps : {G : Type 0} → Requests G → Steps G
request_steps requests = record {
  next_u32 = λ g. (number_of (requests.bytes g 4), requests.after g 4);
  next_u64 = λ g. (number_of (requests.bytes g 8), requests.after g 8);
  fill_bytes = λ n g. (requests.bytes g n, requests.after g n);
}

-- All that a generator with these requests will return, starting with a state.
abbrev pub request_stream : {G : Type 0} → Requests G → G → Stream
request_stream requests = stream_of (request_steps requests)
