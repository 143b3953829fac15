use Rattle.std.proofs.Common.{◌≡◌, length, subst, OnOk, arith}
use Rattle.nanorand_core.specs.shuffles.Arrangements.{IsValid}
use Rattle.nanorand_core.specs.shuffles.Shuffles.{from_itself, shuffle_choices}
use Rattle.nanorand_users.proofs.deals.shuffle_deck.Goals as goal

pub returns-clause-each_once : goal.returns-clause-each_once
returns-clause-each_once g c =
    let deck = c.shuffle.new.target in
    let size : length deck ≡ length c.args.deck.now = omega arith in
    let order = rw c.identity.ensures at c.shuffle.ensures.arrangement in
    rw (← size) ((c.permutations_by_counting.ensures.arrangements deck).0 (rw size order))

pub returns-clause-valid : goal.returns-clause-valid
returns-clause-valid g c =
    let long : length c.identity.new.slots ≡ length c.args.deck.now = omega arith in
    subst (λ n. OnOk c.shuffle.result (IsValid (shuffle_choices g.G.Rng.requests from_itself n c.args.rng.now))) long c.shuffle.ensures.valid
