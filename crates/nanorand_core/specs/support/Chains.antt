-- The table by which a sample finds out whether it holds a number. The first `chains` items are the
-- heads of the chains. Each place of the sample has one more item: the place before it in its
-- chain. Each item is a place plus 1, or 0 for none. Not needed to understand the contracts: only
-- clauses of private functions use this file.
use Rattle.std.specs.Prelude.{◌≡◌, ◌≢◌, ℕ, ◌+◌, ◌-◌, ◌<◌, ◌≤◌, List, slice_index, bit_and}

-- The chain of a number.
abbrev pub chain_of : ℕ → ℕ → ℕ
chain_of chains number = bit_and number (chains - 1)

-- The item for the last of the first `count` places that belong to the chain.
abbrev pub IsLast : ℕ → List ℕ → ℕ → ℕ → ℕ → Type 0
IsLast chains places chain count item =
    (item ≤ count)
    × ((place : ℕ) → item ≡ place + 1 → chain_of chains (slice_index places place) ≡ chain)
    × ((place : ℕ) → item ≤ place → place < count → chain_of chains (slice_index places place) ≢ chain)

-- The table holds the chains of the first `count` places. If there are no chains, this says
-- nothing.
abbrev pub Chained : ℕ → List ℕ → ℕ → List ℕ → Type 0
Chained chains places count table =
    ((chain : ℕ) → chain < chains → IsLast chains places chain count (slice_index table chain))
    × ((place : ℕ) → 0 < chains → place < count
    → IsLast chains places (chain_of chains (slice_index places place)) place (slice_index table (chains + place)))
