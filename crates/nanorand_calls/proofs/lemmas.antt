-- A request for which the buffered bytes are enough.
use Rattle.std.proofs.Common.{◌≡◌, ℕ, ◌≤◌, ◌-◌, List, length, take, drop, refl, arith}
use Rattle.std.proofs.Math.Nat.{zero-div, zero-mod}
use Rattle.std.proofs.lemmas.List.{append-nil, take-append-le}
use Rattle.nanorand_replay.specs.generators.Buffered.{buffer_of, buffered_taken, buffered_after}

module _ {G : Type 0} (block : G → List ℕ) (step : G → G) (output : ℕ) where
  -- A request for no more bytes than are buffered takes the next of them.
  pub served_bytes : (rest : List ℕ) (inner : G) (n : ℕ) → n ≤ length rest
      → buffered_taken block step output (buffer_of rest inner) n ≡ take n rest
  unfolding buffered_taken
  served_bytes rest inner n enough = take-append-le n rest _ enough

  -- It leaves the others buffered, and does not change the inner generator.
  pub served_state : (rest : List ℕ) (inner : G) (n : ℕ) → n ≤ length rest
      → buffered_after block step output (buffer_of rest inner) n ≡ buffer_of (drop n rest) inner
  unfolding buffered_after
  served_state rest inner n enough =
      let none : n - length rest ≡ 0 = omega (arith, enough) in
      rw (none, zero-div, zero-mod, append-nil) refl
