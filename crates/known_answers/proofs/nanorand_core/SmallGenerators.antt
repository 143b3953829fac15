-- The generators of the known answers. Their state counts the blocks drawn.
use Rattle.std.specs.Prelude.{ℕ, ◌+◌, ◌*◌, ◌%◌, List, map, replicate, slice_index_or}
use Rattle.std.specs.List.{range_with_len}
use Rattle.nanorand_core.specs.generators.Blocks.{Requests, plain}
use Rattle.nanorand_replay.specs.generators.Buffered.{Buffered, buffered}

abbrev pub next_count : ℕ → ℕ
next_count n = n + 1

-- The bytes 0, 1, 2, .. in blocks of `size` bytes.
abbrev pub rising_block : ℕ → ℕ → List ℕ
rising_block size n = map (λ i. (size * n + i) % 256) (range_with_len 0 size)

abbrev pub steps : Requests ℕ
steps = plain (rising_block 8) next_count 8

-- The bytes of a list, each as a block of eight equal bytes, and zeros after the list.
abbrev pub script_block : List ℕ → ℕ → List ℕ
script_block bytes n = replicate 8 (slice_index_or bytes n 0)

abbrev pub script : List ℕ → Requests ℕ
script bytes = plain (script_block bytes) next_count 8

-- The same with a buffer.
abbrev pub steps_buffered : Requests (Buffered ℕ)
steps_buffered = buffered (rising_block 8) next_count 8

abbrev pub script_buffered : List ℕ → Requests (Buffered ℕ)
script_buffered bytes = buffered (script_block bytes) next_count 8
