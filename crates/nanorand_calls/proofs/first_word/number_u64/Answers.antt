use Rattle.std.proofs.Common.{◌≡◌, ◌+◌, ◌-◌, ◌*◌, ◌%◌, ◌^◌, false, nat_lt, sym, ◌∙◌, ap₂, arith}
use Rattle.std.proofs.lemmas.Bool.{le-ltb}
use Rattle.nanorand_calls.proofs.FirstWordLemmas.{first-value, first-state}
use Rattle.nanorand_calls.proofs.first_word.number_u64.Given as Given
use Rattle.nanorand_calls.proofs.first_word.number_u64.Goals as goal

-- the word times the number of numbers
product : (g : Given.Over) (c : goal.Else-product-size g)
    → c.from.result * c.from-2.result ≡ c.generate-word.result * (c.args.last + 1 - c.args.first)
product g c =
    let size : c.args.last - c.args.first + 1 ≡ c.args.last + 1 - c.args.first = omega (arith, c.requires) in
    ap₂ (λ m n. m * n) c.from.ensures (c.from-2.ensures ∙ size)

-- the low half of the product is at least the number of numbers
high : (g : Given.Over) (c : goal.Else-product-size g)
    → nat_lt (c.generate-word.result * (c.args.last + 1 - c.args.first) % 2 ^ 64) (c.args.last + 1 - c.args.first) ≡ false
high g c = le-ltb _ _ (rw (← product g c) (omega (arith, c.requires, c.if-product-size.false)))

pub returns-clause-value : goal.returns-clause-value
returns-clause-value g c =
    rw (product g c)
    (sym (first-value g.G.Rng.requests 64 c.args.first c.args.last c.generate-word.result c.args.rng.now (omega arith) (omega arith)
    c.generate-word.ensures.value (omega arith) (high g c)))

pub returns-clause-state : goal.returns-clause-state
returns-clause-state g c =
    rw c.generate-word.ensures.state
    (first-state g.G.Rng.requests 64 c.args.first c.args.last c.generate-word.result c.args.rng.now (omega arith) (omega arith)
    c.generate-word.ensures.value (omega arith) (high g c))
