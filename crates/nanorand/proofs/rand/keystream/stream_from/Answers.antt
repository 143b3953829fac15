use Rattle.std.proofs.Common.{◌≡◌, ℕ, ◌+◌, ◌*◌, ◌/◌, ◌%◌, ◌^◌, ap, ◌∙◌, rules}
use Rattle.nanorand_replay.specs.generators.Buffered.{buffered_after}
use Rattle.nanorand_replay.specs.support.BufferedLemmas.{same_buffer}
use Rattle.nanorand.specs.generators.ChaCha.{counter, with_counter}
use Rattle.nanorand.specs.generators.ChaChaGroups.{chacha_group, next_group}
use Rattle.nanorand.proofs.lemmas.generators.StreamLemmas.{bytes_after}
use Rattle.nanorand.proofs.rand.keystream.stream_from.Goals as goal

pub returns-clause-state : goal.returns-clause-state
returns-clause-state g c =
    let x = c.args.groups.now in
    let bytes : ℕ = c.args.bytes in
    let after = buffered_after (chacha_group g.row.ROUNDS) next_group 512 in
    let at_group : c.at_index.result ≡ with_counter x ((counter x + bytes / 512 % 2 ^ 61 * 8) % 2 ^ 64) =
    c.at_index.ensures.state ∙ ap (λ (n : ℕ). with_counter x ((n + bytes / 512 % 2 ^ 61 * 8) % 2 ^ 64)) c.counter.ensures.value in
    let fresh = same_buffer c.new-stream.ensures.rest (c.new-stream.ensures.inner ∙ at_group) in
    let written : c.fill_bytes.new.self ≡ after c.new-stream.result (bytes % 512) = search rules in
    written ∙ ap (λ b. after b (bytes % 512)) fresh ∙ bytes_after x c.counter.ensures.matrix g.row.ROUNDS bytes
