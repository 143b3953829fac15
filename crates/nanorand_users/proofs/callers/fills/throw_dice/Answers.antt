use Rattle.std.proofs.Common.{◌&&◌, nat_le, rules}
use Rattle.std.proofs.lemmas.Bool.{and_parts, leb-true}
use Rattle.nanorand_users.proofs.callers.fills.throw_dice.Goals as goal

pub returns : goal.returns
returns g c = λ k d within.
    let passed = c.fill_with.ensures.all (λ pips. nat_le 1 pips && nat_le pips 6) (λ f s x f' s' call. search rules) k d within in
    let parts = and_parts _ _ passed in
    (leb-true 1 _ parts.0, leb-true _ 6 parts.1)
