-- Items of any type, as the bytes that they are in memory.
use Rattle.std.specs.Prelude.{ℕ, ◌+◌, ◌*◌, ◌/◌, List, length, map, slice_range}
use Rattle.std.specs.List.{range_with_len}

-- The item at index i: the `size` bytes from i * size on.
abbrev pub item_at : ℕ → List ℕ → ℕ → List ℕ
item_at size bytes i = slice_range bytes (i * size) (i * size + size)

-- The items of `size` bytes each that the bytes hold, one after another. Bytes at the end that are
-- fewer than `size` are no item. If `size` is 0, there is no item.
abbrev pub items_of : ℕ → List ℕ → List (List ℕ)
items_of size bytes = map (item_at size bytes) (range_with_len 0 (length bytes / size))
