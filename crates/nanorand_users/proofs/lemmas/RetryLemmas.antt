-- One more delay.
use Rattle.std.proofs.Common.{◌≡◌, ℕ, suc, ◌+◌, ◌-◌, ◌*◌, ◌^◌, ◌<◌, List, ◌++◌, length, take, set, min, add-one, append_assoc, ◌∙◌, ap, arith}
use Rattle.std.proofs.Math.Nat.{pow-suc}
use Rattle.std.proofs.lemmas.List.{take_more_set}
use Rattle.std.specs.Result.{result_unwrap_or}
use Rattle.nanorand_core.specs.generators.Blocks.{Requests}
use Rattle.nanorand_users.specs.Retry.{ceiling_after, delay_drawn, delays_after, state_after_delays}

-- The ceiling doubles up to the cap; a product of more than 64 bits is above the cap.
pub next_ceiling : (first cap k ceiling doubled : ℕ) → cap < 2 ^ 64 → ceiling ≡ ceiling_after first cap k
    → doubled ≡ min (ceiling * 2) (2 ^ 64 - 1) → min doubled cap ≡ ceiling_after first cap (k + 1)
next_ceiling first cap k ceiling doubled fits is twice =
    let power : 2 ^ (k + 1) ≡ 2 ^ k * 2 = rw add-one (pow-suc 2 k) in
    let more : first * 2 ^ (k + 1) ≡ 2 * (first * 2 ^ k) = ap (λ (n : ℕ). first * n) power ∙ omega arith in
    omega (arith, more, is, twice)

module _ {G : Type 0} (requests : Requests G) (first cap tries k : ℕ) (g h : G) where
  pub delays_more : (delays whole : List ℕ) (delay : ℕ) → k < tries → length delays ≡ tries
      → take k delays ++ delays_after requests first cap k (tries - k) g ≡ whole
      → delay ≡ result_unwrap_or (delay_drawn requests (ceiling_after first cap k) g).0 (ceiling_after first cap k)
      → h ≡ (delay_drawn requests (ceiling_after first cap k) g).1
      → take (k + 1) (set delays k delay) ++ delays_after requests first cap (k + 1) (tries - (k + 1)) h ≡ whole
  delays_more delays whole delay more long so_far is left =
      let next : tries - k ≡ suc (tries - (k + 1)) = omega arith in
      let within : k < length delays = omega arith in
      rw (take_more_set delays k delay within, append_assoc, is, left) (rw next at so_far)

  pub state_more : (whole : G) → k < tries
      → state_after_delays requests first cap k (tries - k) g ≡ whole
      → h ≡ (delay_drawn requests (ceiling_after first cap k) g).1
      → state_after_delays requests first cap (k + 1) (tries - (k + 1)) h ≡ whole
  state_more whole more so_far left =
      let next : tries - k ≡ suc (tries - (k + 1)) = omega arith in
      rw left (rw next at so_far)
