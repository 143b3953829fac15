use Rattle.std.proofs.Common.{rules, ◌*◌, ◌∙◌, ap₂, sym}
use Rattle.nanorand.specs.generators.ChaCha.{chacha_after, chacha_requests}
use Rattle.nanorand.specs.support.ChaChaDrawLemmas.{chacha_steps}
use Rattle.nanorand.specs.support.OnwardLemmas.{draws-leave}
use Rattle.nanorand.proofs.lemmas.generators.StatePeriodLemmas.{chacha_again, chacha_once}
use Rattle.nanorand.proofs.rand.chacha.ChaChaParts64.part.Goals as goal

pub returns-clause-begins : goal.returns-clause-begins
returns-clause-begins g c =
    let before = c.args.index * c.args.draws in
    c.jump.ensures.state ∙ ap₂ chacha_after c.in_ok-before.ensures.before c.self.view_is
    ∙ sym (draws-leave (chacha_requests g.row.ROUNDS) before c.args.self.now ∙ chacha_steps before c.args.self.now)

pub returns-clause-once : goal.returns-clause-once
returns-clause-once g c = chacha_once g.row.ROUNDS c.args.self.now (record { sixteen = search rules; words = search rules })

pub returns-clause-again : goal.returns-clause-again
returns-clause-again g c = chacha_again g.row.ROUNDS c.args.self.now (record { sixteen = search rules; words = search rules })
