use Rattle.std.proofs.Common.{[], ◌∷◌, arith}
use Rattle.nanorand_users.proofs.callers.counted.orders_are_not_alike.Goals as goal

pub returns : goal.returns
returns c =
    let words = c.full_shuffles_prefer_orders.ensures.words in
    let kept = words (0 ∷ 1 ∷ 2 ∷ []) (omega arith) in
    let exchanged = words (1 ∷ 0 ∷ 2 ∷ []) (omega arith) in
    omega (arith, kept, exchanged, c.full_shuffles_prefer_orders.ensures.three)
