use Rattle.std.proofs.Common.{◌≤◌, ◌&&◌, nat_le, rules}
use Rattle.std.proofs.lemmas.Bool.{and_parts, leb-true}
use Rattle.std.proofs.lemmas.List.Elements.{All-weaker}
use Rattle.nanorand_users.proofs.callers.fills.delays.Goals as goal

pub returns-clause-bounds : goal.returns-clause-bounds
returns-clause-bounds g c =
    let low = c.args.low in
    let high = c.args.high in
    All-weaker _ (λ delay. (low ≤ delay) × (delay ≤ high))
    (λ delay passed. let parts = and_parts (nat_le low delay) (nat_le delay high) passed in (leb-true low delay parts.0, leb-true delay high parts.1))
    _ (c.fill_with.ensures.own_all (λ delay. nat_le low delay && nat_le delay high) (λ source x f' left call. search rules))
