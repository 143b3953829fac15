use Rattle.std.proofs.Common.{◌≡◌, ◌+◌, ◌-◌, ◌*◌, ◌%◌, ◌^◌, false, nat_lt, sym, arith}
use Rattle.std.proofs.lemmas.Bool.{le-ltb}
use Rattle.nanorand_calls.proofs.FirstWordLemmas.{first-value, first-state}
use Rattle.nanorand_calls.proofs.first_word.number_u32.Given as Given
use Rattle.nanorand_calls.proofs.first_word.number_u32.Goals as goal

-- the low half of the product is at least the number of numbers
high : (g : Given.Over) (c : goal.Else-product-size g)
    → nat_lt (c.generate-word.result * (c.args.last + 1 - c.args.first) % 2 ^ 32) (c.args.last + 1 - c.args.first) ≡ false
high g c = le-ltb _ _ (rw (← c.from.ensures, ← c.from-2.ensures, ← c.from-3.ensures) (omega arith))

pub returns-clause-value : goal.returns-clause-value
returns-clause-value g c =
    rw (c.from.ensures, c.from-2.ensures, c.from-3.ensures)
    (sym (first-value g.G.Rng.requests 32 c.args.first c.args.last c.generate-word.result c.args.rng.now (omega arith) (omega arith)
    c.generate-word.ensures.value (omega arith) (high g c)))

pub returns-clause-state : goal.returns-clause-state
returns-clause-state g c =
    rw c.generate-word.ensures.state
    (first-state g.G.Rng.requests 32 c.args.first c.args.last c.generate-word.result c.args.rng.now (omega arith) (omega arith)
    c.generate-word.ensures.value (omega arith) (high g c))
