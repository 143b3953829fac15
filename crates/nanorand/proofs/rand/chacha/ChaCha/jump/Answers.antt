use Rattle.std.proofs.Common.{◌+◌, ◌%◌, ◌^◌, rules, ap, sym, ◌∙◌}
use Rattle.nanorand.specs.generators.ChaCha.{advanced, with_counter}
use Rattle.nanorand.specs.generators.ChaChaRounds.{IsMatrix}
use Rattle.nanorand.specs.support.ChaChaDrawLemmas.{chacha_closed}
use Rattle.nanorand.proofs.rand.chacha.ChaCha.jump.Goals as goal

pub returns-clause-counter : goal.returns-clause-counter
returns-clause-counter g c =
    c.set_counter.ensures ∙ ap (λ n. with_counter c.self.inside.state ((n + c.args.n) % 2 ^ 64)) c.counter.ensures
    ∙ ap (advanced c.args.n) c.self.view_is

pub returns-clause-state : goal.returns-clause-state
returns-clause-state g c =
    let matrix : IsMatrix c.args.self.now = record { sixteen = search rules; words = search rules } in
    returns-clause-counter g c ∙ sym (chacha_closed c.args.n c.args.self.now matrix)
