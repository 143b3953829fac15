use Rattle.std.proofs.Common.{arith}
use Rattle.nanorand_users.proofs.callers.counted.cards_are_alike.Goals as goal

pub returns : goal.returns
returns c = λ n card other low other_low.
    let shares = c.shuffles_are_fair.ensures.shares 5 52 n in
    let one = shares card (omega arith) (omega arith) low in
    let another = shares other (omega arith) (omega arith) other_low in
    omega (arith, one, another)
