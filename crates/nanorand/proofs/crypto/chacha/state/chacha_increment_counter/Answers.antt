use Rattle.std.proofs.Common.{refl, ap, ◌+◌, ◌∙◌}
use Rattle.std.proofs.lemmas.Bool.{false≢true}
use Rattle.nanorand.specs.generators.ChaCha.{with_counter}
use Rattle.nanorand.proofs.crypto.chacha.state.chacha_increment_counter.Goals as goal

pub returns-in-None-clause-last : goal.returns-in-None-clause-last
returns-in-None-clause-last c = refl

pub returns-in-None-clause-next : goal.returns-in-None-clause-next
returns-in-None-clause-next c = tt

pub returns-in-None-clause-more : goal.returns-in-None-clause-more
returns-in-None-clause-more c = (λ same. absurd (false≢true same), λ more. absurd (c.in-None.ensures (rw c.counter.ensures more)))

pub returns-in-Some-clause-next : goal.returns-in-Some-clause-next
returns-in-Some-clause-next c =
    c.set_counter.ensures ∙ ap (with_counter c.args.state.now) (c.in-Some.ensures.1 ∙ ap (λ n. n + 1) c.counter.ensures)

pub returns-in-Some-clause-more : goal.returns-in-Some-clause-more
returns-in-Some-clause-more c = (λ _. rw (← c.counter.ensures) c.in-Some.ensures.0, λ _. refl)
