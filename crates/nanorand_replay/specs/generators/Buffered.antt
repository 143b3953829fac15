-- A buffered generator: it delivers its buffered bytes, and then the blocks of the inner generator,
-- as one unbroken stream. A request is one read of n bytes.
use Rattle.std.specs.Prelude.{ℕ, ◌-◌, List, ◌++◌, length, take, drop, refl}
use Rattle.std.specs.Coded.{Coded, code_by, coded×, coded_ℕ, coded_list}
use Rattle.std.specs.Fn.{iterate}
use Rattle.std.specs.Int.{div_ceil}
use Rattle.nanorand_core.specs.generators.Blocks.{Requests, blocks}

-- The state of a buffered generator: the buffered bytes in the order in which they will be
-- delivered, and the state of the inner generator.
pub record Buffered (G : Type 0) : Type 0 where
  pub rest : List ℕ
  pub inner : G

-- The state with these buffered bytes and this inner state.
abbrev pub buffer_of : {G : Type 0} → List ℕ → G → Buffered G
buffer_of rest inner = record { rest = rest; inner = inner }

-- The encoding of a state: that of the pair of its fields.
abbrev pub buffered_code : {G : Type 0} → Coded G → Coded (Buffered G)
buffered_code {G} code =
    code_by (List ℕ × G) (coded× (coded_list coded_ℕ) code)
    (λ b. (b.rest, b.inner)) (λ p. record { rest = p.0; inner = p.1 }) (λ _. refl)

module _ {G : Type 0} (block : G → List ℕ) (step : G → G) (output : ℕ) where
  -- The buffered bytes, followed by the bytes of the next m blocks.
  abbrev pub stream : Buffered G → ℕ → List ℕ
  stream b m = b.rest ++ blocks block step b.inner m

  -- The number of blocks that a request of n bytes draws: the fewest that supply the bytes that are
  -- not yet buffered.
  abbrev pub blocks_needed : Buffered G → ℕ → ℕ
  blocks_needed b n = div_ceil (n - length b.rest) output

  -- The bytes that a request of n bytes takes.
  unfoldable pub buffered_taken : Buffered G → ℕ → List ℕ
  buffered_taken b n = take n (stream b (blocks_needed b n))

  -- The state after a request of n bytes: the bytes not taken stay buffered, and the inner
  -- generator has advanced by the blocks drawn.
  unfoldable pub buffered_after : Buffered G → ℕ → Buffered G
  buffered_after b n = record {
    rest = drop n (stream b (blocks_needed b n));
    inner = iterate step (blocks_needed b n) b.inner;
  }

  -- The next block of a buffered generator: a request of `output` bytes.
  abbrev pub buffered_block : Buffered G → List ℕ
  buffered_block b = buffered_taken b output

  -- The state after that block.
  abbrev pub buffered_step : Buffered G → Buffered G
  buffered_step b = buffered_after b output

  -- The requests of a buffered generator.
  abbrev pub buffered : Requests (Buffered G)
  buffered = record { bytes = buffered_taken; after = buffered_after }
