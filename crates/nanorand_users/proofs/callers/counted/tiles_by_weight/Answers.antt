use Rattle.std.proofs.Common.{[], ◌∷◌, refl, inr, arith}
use Rattle.nanorand_users.proofs.callers.counted.tiles_by_weight.Goals as goal

pub returns : goal.returns
returns c =
    let weights = c.fairness_with_rejections.ensures.weights 64 (6 ∷ 3 ∷ 1 ∷ []) 10 in
    let first = weights 0 0 (inr (inr (inr refl))) (omega arith) (omega arith) (omega arith) in
    let second = weights 1 0 (inr (inr (inr refl))) (omega arith) (omega arith) (omega arith) in
    omega (arith, first, second)
