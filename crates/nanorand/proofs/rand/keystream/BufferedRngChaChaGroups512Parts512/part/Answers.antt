use Rattle.std.proofs.Common.{◌≡◌, subst, ◌≤◌, ℕ, ◌*◌, ◌-◌, [], drop, take, length, ap, ap₂, sym, ◌∙◌, arith}
use Rattle.std.proofs.lemmas.List.{length-drop, take_all}
use Rattle.nanorand_replay.specs.generators.Buffered.{buffer_of, buffered_after}
use Rattle.nanorand_replay.specs.support.BufferedLemmas.{after_kept, after_past, same_buffer}
use Rattle.nanorand.specs.generators.ChaChaGroups.{chacha_group, next_group}
use Rattle.nanorand.specs.support.ChaChaGroupLemmas.{length-chacha_group}
use Rattle.nanorand.specs.support.OnwardLemmas.{stream_draws}
use Rattle.nanorand.specs.generators.ChaChaRounds.{IsMatrix}
use Rattle.nanorand.proofs.lemmas.generators.StatePeriodLemmas.{stream_again, stream_once}
use Rattle.nanorand.proofs.rand.keystream.BufferedRngChaChaGroups512Parts512.part.Goals as goal

pub returns-then-bytes-kept-clause-begins : goal.returns-then-bytes-kept-clause-begins
returns-then-bytes-kept-clause-begins g c =
    let R : ℕ = g.row.ROUNDS in
    let b = c.args.self.now in
    let before = c.args.index * c.args.draws in
    let bytes : c.in_ok-bytes.field-0 * 8 ≡ before * 8 = ap (λ (n : ℕ). n * 8) c.in_ok-bytes.ensures.before in
    let within : before * 8 ≤ length b.rest = omega (arith, bytes, c.if-bytes-kept.true, ap length c.rest-kept.ensures.value) in
    let kept = c.rest-kept.result.now in
    let skipped = c.in_ok-bytes.field-0 * 8 in
    let all : take (length kept - skipped) (drop skipped kept) ≡ drop skipped kept =
    take_all (length kept - skipped) (drop skipped kept) (omega (arith, length-drop skipped kept)) in
    c.stream_with.ensures.state ∙ same_buffer (all ∙ ap₂ drop bytes c.rest-kept.ensures.value) c.inner-groups.ensures
    ∙ sym (stream_draws R before b ∙ after_kept (chacha_group R) next_group 512 (omega arith) (length-chacha_group R) b (before * 8) within)

pub returns-else-bytes-kept-clause-begins : goal.returns-else-bytes-kept-clause-begins
returns-else-bytes-kept-clause-begins g c =
    let R : ℕ = g.row.ROUNDS in
    let b = c.args.self.now in
    let before = c.args.index * c.args.draws in
    let after = buffered_after (chacha_group R) next_group 512 in
    let bytes : c.in_ok-bytes.field-0 * 8 ≡ before * 8 = ap (λ (n : ℕ). n * 8) c.in_ok-bytes.ensures.before in
    let past : length b.rest ≤ before * 8 = omega (arith, bytes, c.if-bytes-kept.false, ap length c.rest-kept.ensures.value) in
    let left = ap₂ (λ (m n : ℕ). m - n) bytes (ap length c.rest-kept.ensures.value) in
    c.stream_from.ensures.state ∙ ap₂ (λ x n. after (buffer_of [] x) n) c.inner-groups.ensures left
    ∙ sym (stream_draws R before b ∙ after_past (chacha_group R) next_group 512 (omega arith) (length-chacha_group R) b (before * 8) past)

pub returns-then-bytes-kept-clause-once : goal.returns-then-bytes-kept-clause-once
returns-then-bytes-kept-clause-once g c =
    stream_once g.row.ROUNDS c.args.self.now (subst IsMatrix c.inner-groups.ensures c.stream_with.ensures.matrix)
    (omega (arith, ap length c.rest-kept.ensures.value, c.rest-kept.ensures.below))

pub returns-else-bytes-kept-clause-once : goal.returns-else-bytes-kept-clause-once
returns-else-bytes-kept-clause-once g c =
    stream_once g.row.ROUNDS c.args.self.now (subst IsMatrix c.inner-groups.ensures c.stream_from.ensures.matrix)
    (omega (arith, ap length c.rest-kept.ensures.value, c.rest-kept.ensures.below))

pub returns-then-bytes-kept-clause-again : goal.returns-then-bytes-kept-clause-again
returns-then-bytes-kept-clause-again g c =
    stream_again g.row.ROUNDS c.args.self.now (subst IsMatrix c.inner-groups.ensures c.stream_with.ensures.matrix)
    (omega (arith, ap length c.rest-kept.ensures.value, c.rest-kept.ensures.below))

pub returns-else-bytes-kept-clause-again : goal.returns-else-bytes-kept-clause-again
returns-else-bytes-kept-clause-again g c =
    stream_again g.row.ROUNDS c.args.self.now (subst IsMatrix c.inner-groups.ensures c.stream_from.ensures.matrix)
    (omega (arith, ap length c.rest-kept.ensures.value, c.rest-kept.ensures.below))
