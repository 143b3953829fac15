use Rattle.std.proofs.Common.{◌≡◌, ℕ, ◌+◌, ◌/◌, ◌%◌, ◌^◌, ◌<◌, List, [], length, set, ap, ◌∙◌, arith, length-set, subst}
use Rattle.nanorand_replay.specs.generators.Buffered.{buffer_of, buffered_after}
use Rattle.nanorand.specs.generators.ChaCha.{with_counter}
use Rattle.nanorand.specs.generators.ChaChaRounds.{IsMatrix}
use Rattle.nanorand.specs.generators.ChaChaGroups.{chacha_group, next_group, stream_position}
use Rattle.nanorand.proofs.lemmas.generators.StreamLemmas.{bytes_agree, position_after}
use Rattle.nanorand.proofs.rand.keystream.BufferedRngChaChaGroups512Keystream512.seek.Goals as goal

-- if a state with its counter set is a matrix, the state has both words of the counter
counter_there : (x : List ℕ) (n : ℕ) → IsMatrix (with_counter x n) → 13 < length x
counter_there x n matrix =
    let same : length (with_counter x n) ≡ length x =
    length-set (set x 12 (n % 2 ^ 32)) 13 (n / 2 ^ 32) ∙ length-set x 12 (n % 2 ^ 32) in
    omega (arith, same, matrix.sixteen)

pub returns-clause-state : goal.returns-clause-state
returns-clause-state g c =
    let after = buffered_after (chacha_group g.row.ROUNDS) next_group 512 in
    c.stream_from.ensures.state
    ∙ ap (λ x. after (buffer_of [] x) c.args.byte) (c.at_index.ensures.state ∙ ap (λ x. with_counter x 0) c.inner.ensures)

pub returns-clause-position : goal.returns-clause-position
returns-clause-position g c =
    let x = c.args.self.now.inner in
    let start = c.at_index.ensures.state ∙ ap (λ y. with_counter y 0) c.inner.ensures in
    let matrix : IsMatrix (with_counter x 0) = subst IsMatrix start c.at_index.ensures.matrix in
    ap stream_position (returns-clause-state g c) ∙ position_after g.row.ROUNDS x c.args.byte (counter_there x 0 matrix) matrix

pub returns-clause-wraps : goal.returns-clause-wraps
returns-clause-wraps g c = λ n.
    let start = c.at_index.ensures.state ∙ ap (λ y. with_counter y 0) c.inner.ensures in
    bytes_agree (with_counter c.args.self.now.inner 0) (subst IsMatrix start c.at_index.ensures.matrix)
    g.row.ROUNDS (n + 2 ^ 70) n (omega arith)
