use Rattle.std.proofs.Common.{ℕ, ◌+◌, ◌-◌, ◌*◌, ◌%◌, ◌^◌, ap, sym, ◌∙◌, rules, arith}
use Rattle.nanorand_replay.specs.support.BufferedLemmas.{same_buffer}
use Rattle.nanorand.specs.generators.ChaChaGroups.{stream_position}
use Rattle.nanorand.proofs.lemmas.chacha.SavedLemmas.{counter-state_at, state_at-first}
use Rattle.nanorand.proofs.rand.keystream.BufferedRngChaChaGroups512Keystream512.new_key.Goals as goal

pub returns-clause-state : goal.returns-clause-state
returns-clause-state g c =
    let first = state_at-first c.args.key c.args.nonce (search rules) (search rules) in
    same_buffer c.new.ensures.rest (c.new.ensures.inner ∙ c.new_key.ensures.state ∙ sym first)

pub returns-clause-position : goal.returns-clause-position
returns-clause-position g c =
    let zero_there = counter-state_at c.args.key c.args.nonce 0 (search rules) (search rules) in
    ap stream_position (returns-clause-state g c) ∙ ap (λ (n : ℕ). (n * 64 + 2 ^ 70 - 0) % 2 ^ 70) zero_there ∙ omega arith
