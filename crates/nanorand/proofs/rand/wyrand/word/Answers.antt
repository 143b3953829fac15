use Rattle.std.specs.Prelude.{ℕ, bit_xor}
use Rattle.std.proofs.Common.{◌*◌, ◌+◌, ◌%◌, ◌/◌, ◌^◌, ◌<◌, ◌≡◌, arith, lit<}
use Rattle.std.proofs.lemmas.Bool.{le-ltb}
use Rattle.std.proofs.lemmas.Nat.{mul-lt, xor_lt}
use Rattle.nanorand.specs.generators.WyRand.{word}
use Rattle.nanorand.proofs.rand.wyrand.word.Goals as goal

-- a product of two words has 128 bits
product_below : (seed : ℕ) → seed < 2 ^ 64 → seed * bit_xor seed 0xe7037ed1a0b428db < 2 ^ 64 * 2 ^ 64
product_below seed fits = mul-lt seed _ (2 ^ 64) (2 ^ 64) fits (xor_lt 64 _ _ fits (lit< tt))

pub overflow_mul-product : goal.overflow_mul-product
overflow_mul-product c = record { fits = rw (c.from.ensures, c.from-2.ensures) (product_below c.args.seed c.ranges.seed.fits) }

-- such a product, divided by 2 ^ 64, is a word
pub overflow_cast-result : goal.overflow_cast-result
overflow_cast-result c = record { fits = rw (c.from.ensures, c.from-2.ensures) (omega (arith, product_below c.args.seed c.ranges.seed.fits)) }

-- nothing is borrowed
pub returns : goal.returns
returns c =
    let product = c.args.seed * bit_xor c.args.seed 0xe7037ed1a0b428db in
    let low = product % 2 ^ 64 in
    let below : product < 2 ^ 64 * 2 ^ 64 = product_below c.args.seed c.ranges.seed.fits in
    let high : (product / 2 ^ 64 + 2 ^ 64) % 2 ^ 64 ≡ product / 2 ^ 64 = omega (arith, below) in
    rw (c.from-borrow.ensures, c.from.ensures, c.from-2.ensures, le-ltb low low (omega (arith)), high) (λ i. word c.args.seed)
