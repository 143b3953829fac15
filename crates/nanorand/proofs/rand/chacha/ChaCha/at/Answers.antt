use Rattle.std.proofs.Common.{◌≡◌, length, take, rules, ap, ◌∙◌}
use Rattle.nanorand.specs.generators.ChaCha.{counter, state_at, key_of, nonce_of, with_counter}
use Rattle.nanorand.specs.support.ChaChaDrawLemmas.{counter-with_counter}
use Rattle.nanorand.proofs.lemmas.chacha.SavedLemmas.{constants-state_at, key-state_at, nonce-state_at}
use Rattle.nanorand.proofs.rand.chacha.ChaCha.at.Goals as goal

pub returns-clause-state : goal.returns-clause-state
unfolding state_at
returns-clause-state g c = c.set_counter.ensures ∙ ap (λ x. with_counter x c.args.index) c.chacha_init-state.ensures

pub invariant_of-result : goal.invariant_of-result
invariant_of-result g c =
    (c.requires, ap (take 4) (returns-clause-state g c) ∙ constants-state_at c.args.key c.args.nonce c.args.index)

pub returns-clause-key : goal.returns-clause-key
returns-clause-key g c =
    let key : length c.args.key ≡ 32 = search rules in
    let nonce : length c.args.nonce ≡ 8 = search rules in
    ap key_of (returns-clause-state g c) ∙ key-state_at c.args.key c.args.nonce c.args.index key nonce (search rules)

pub returns-clause-nonce : goal.returns-clause-nonce
returns-clause-nonce g c =
    let key : length c.args.key ≡ 32 = search rules in
    let nonce : length c.args.nonce ≡ 8 = search rules in
    ap nonce_of (returns-clause-state g c) ∙ nonce-state_at c.args.key c.args.nonce c.args.index key nonce (search rules)

pub returns-clause-counter : goal.returns-clause-counter
returns-clause-counter g c =
    ap counter c.set_counter.ensures ∙ counter-with_counter c.chacha_init-state.result c.args.index (search rules)
