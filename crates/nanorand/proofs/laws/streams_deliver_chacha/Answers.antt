use Rattle.std.proofs.Common.{◌≡◌, ℕ, List, [], length, sym, ◌∙◌, arith}
use Rattle.nanorand_replay.specs.generators.Buffered.{buffer_of, buffered}
use Rattle.nanorand_replay.specs.support.BufferedLemmas.{length-buffered_taken}
use Rattle.nanorand.specs.generators.ChaCha.{chacha_block, next_state}
use Rattle.nanorand.specs.generators.ChaChaGroups.{chacha_group, next_group, stream_requests}
use Rattle.nanorand.specs.support.ChaChaGroupLemmas.{length-chacha_group, taken_chacha_groups}
use Rattle.nanorand.proofs.lemmas.generators.StreamLemmas.{deliver_alike, all_alike, key-kept, nonce-kept, position_moves}
use Rattle.nanorand.proofs.laws.streams_deliver_chacha.Goals as goal

-- a request of n bytes to a stream takes n bytes
length-stream : (R : ℕ) (x : List ℕ) (n : ℕ) → length ((stream_requests R).bytes (buffer_of [] x) n) ≡ n
length-stream R x n = length-buffered_taken (chacha_group R) next_group 512 (omega arith) (length-chacha_group R) (buffer_of [] x) n

pub returns-clause-each : goal.returns-clause-each
returns-clause-each g c = λ x.
    let R : ℕ = g.row.ROUNDS in
    deliver_alike (stream_requests R) (buffered (chacha_block R) next_state 64)
    c.unbroken_delivery.ensures.unbroken c.unbroken_delivery-2.ensures.unbroken (buffer_of [] x) (buffer_of [] x)
    (length-stream R x)
    (λ n. c.fresh_delivery.ensures.one x n ∙ taken_chacha_groups R x n ∙ sym (c.fresh_delivery-2.ensures.one x n))

pub returns-clause-all : goal.returns-clause-all
returns-clause-all g c = λ x.
    let R : ℕ = g.row.ROUNDS in
    all_alike (stream_requests R) (buffered (chacha_block R) next_state 64)
    c.unbroken_delivery.ensures.unbroken c.unbroken_delivery-2.ensures.unbroken (buffer_of [] x) (buffer_of [] x)
    (length-stream R x)
    (λ n. c.fresh_delivery.ensures.one x n ∙ taken_chacha_groups R x n ∙ sym (c.fresh_delivery-2.ensures.one x n))

pub returns-clause-positions : goal.returns-clause-positions
returns-clause-positions g c = position_moves g.row.ROUNDS

pub returns-clause-keys : goal.returns-clause-keys
returns-clause-keys g c = key-kept g.row.ROUNDS

pub returns-clause-nonces : goal.returns-clause-nonces
returns-clause-nonces g c = nonce-kept g.row.ROUNDS
