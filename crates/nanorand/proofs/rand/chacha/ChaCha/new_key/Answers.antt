use Rattle.std.proofs.Common.{take, ap, ◌∙◌}
use Rattle.nanorand.proofs.lemmas.chacha.SavedLemmas.{constants-initial_state}
use Rattle.nanorand.proofs.rand.chacha.ChaCha.new_key.Goals as goal

pub returns-clause-state : goal.returns-clause-state
returns-clause-state g c = c.chacha_init.ensures

pub invariant_of-result : goal.invariant_of-result
invariant_of-result g c =
    (c.requires, ap (take 4) c.chacha_init.ensures ∙ constants-initial_state c.args.key c.args.nonce)
