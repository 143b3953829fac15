use Rattle.std.proofs.Common.{◌≡◌, ℕ, ◌+◌, ◌*◌, ◌/◌, ◌^◌, ◌<◌, ◌≤◌, ◌∙◌, ap, arith}
use Rattle.std.specs.Int.Count.{count_leading_zeros}
use Rattle.std.proofs.lemmas.Nat.{leading_top, pow-add, shl-shr}
use Rattle.nanorand_core.proofs.samples.chains_in.Goals as goal

-- the highest bit of a number that is not 0, and no other bit
highest : (room : ℕ) → 0 < room → room < 2 ^ 64
    → (k : ℕ) × (2 ^ 63 / 2 ^ count_leading_zeros 64 room ≡ 2 ^ k) × (2 ^ k ≤ room) × (room < 2 * 2 ^ k)
highest room some fits =
    let top = leading_top 64 room some fits in
    let k = top.0 in
    let zeros = count_leading_zeros 64 room in
    let all : 63 ≡ k + zeros = omega (arith, top.1) in (
      k,
      ap (λ n. 2 ^ n / 2 ^ zeros) all ∙ ap (λ n. n / 2 ^ zeros) (pow-add 2 k zeros) ∙ shl-shr (2 ^ k) zeros,
      top.2,
      omega (arith, top.3),
    )

pub returns-clause-power : goal.returns-clause-power
returns-clause-power c some =
    let bit = highest c.args.room some c.ranges.room.fits in (bit.0, bit.1)

pub returns-clause-greatest : goal.returns-clause-greatest
returns-clause-greatest c some =
    let bit = highest c.args.room some c.ranges.room.fits in rw bit.1 bit.3

pub returns-clause-within : goal.returns-clause-within
returns-clause-within c =
    let bit = highest c.args.room (omega arith) c.ranges.room.fits in rw bit.1 bit.2
