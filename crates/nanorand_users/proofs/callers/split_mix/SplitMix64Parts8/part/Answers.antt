use Rattle.std.proofs.Common.{◌≡◌, ℕ, ◌+◌, ◌*◌, ◌%◌, ◌^◌, ◌<◌, ◌∙◌, sym, arith}
use Rattle.nanorand_users.specs.SplitMix.{increment}
use Rattle.nanorand_users.proofs.lemmas.SplitMixLemmas.{again, once, seed_after}
use Rattle.nanorand_users.proofs.callers.split_mix.SplitMix64Parts8.part.Goals as goal
use Rattle.nanorand_users.proofs.callers.split_mix.SplitMix64Parts8.part.Goals.{After-self}

fits : (c : After-self) → c.args.self.now < 2 ^ 64
fits c = rw (← c.self.view_is) (omega arith)

pub returns-clause-begins : goal.returns-clause-begins
returns-clause-begins c =
    let before : ℕ = c.args.index * c.args.draws in
    let sum : (c.self.inside.seed + before % 2 ^ 64 * increment % 2 ^ 64) % 2 ^ 64 ≡ (c.args.self.now + before * increment) % 2 ^ 64 =
    omega (arith, c.self.view_is) in
    sum ∙ sym (seed_after before c.args.self.now (fits c))

pub returns-clause-once : goal.returns-clause-once
returns-clause-once c = once c.args.self.now (fits c)

pub returns-clause-again : goal.returns-clause-again
returns-clause-again c = again c.args.self.now (fits c)
