-- A word generator of the kit's `rand_core`, as a generator of the library. `step` returns the next
-- word and the state after it.
use Rattle.std.specs.Prelude.{ℕ}
use Rattle.rand_core.specs.Steps.{fill_via_u32, fill_via_u64}
use Rattle.nanorand_core.specs.generators.Blocks.{Requests}

-- A request takes the bytes of the next words of 32 bits, in little-endian order. It drops the
-- unused bytes of the last word.
abbrev pub words32 : {R : Type 0} → (R → ℕ × R) → Requests R
words32 step = record {
  bytes = λ r n. (fill_via_u32 step n r).0;
  after = λ r n. (fill_via_u32 step n r).1;
}

-- The same for words of 64 bits.
abbrev pub words64 : {R : Type 0} → (R → ℕ × R) → Requests R
words64 step = record {
  bytes = λ r n. (fill_via_u64 step n r).0;
  after = λ r n. (fill_via_u64 step n r).1;
}
