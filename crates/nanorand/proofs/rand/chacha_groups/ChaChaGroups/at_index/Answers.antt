use Rattle.std.proofs.Common.{◌≡◌, ℕ, List, ap, ap₂, sym, ◌∙◌}
use Rattle.nanorand.specs.generators.ChaCha.{initial_state, state_at, key_of, nonce_of, counter, with_counter}
use Rattle.nanorand.specs.support.ChaChaDrawLemmas.{with_counter-twice}
use Rattle.nanorand.proofs.rand.chacha_groups.ChaChaGroups.at_index.Goals as goal

-- a state made again from its parts, with another counter
made_again : (x : List ℕ) (index : ℕ) → state_at (key_of x) (nonce_of x) (counter x) ≡ x
    → state_at (key_of x) (nonce_of x) index ≡ with_counter x index
unfolding state_at
made_again x index parts =
    sym (with_counter-twice (initial_state (key_of x) (nonce_of x)) (counter x) index)
    ∙ ap (λ (y : List ℕ). with_counter y index) parts

pub returns-clause-state : goal.returns-clause-state
returns-clause-state g c =
    c.at.ensures.state ∙ ap₂ (λ (k n : List ℕ). state_at k n c.args.index) c.key.ensures.value c.nonce.ensures
    ∙ made_again _ c.args.index c.key.ensures.parts ∙ ap (λ (x : List ℕ). with_counter x c.args.index) c.self.view_is
