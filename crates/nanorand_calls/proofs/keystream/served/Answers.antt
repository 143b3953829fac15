use Rattle.std.proofs.lemmas.Grind.{common_steps}
use Rattle.std.proofs.Common.{◌≡◌, ◌≤◌, ℕ, length, length-drop, take, drop, ◌+◌, ◌-◌, arith, ap, sym, ◌∙◌}
use Rattle.std.specs.Prelude.{min}
use Rattle.std.proofs.lemmas.List.{drop-drop}
use Rattle.nanorand_replay.specs.generators.Buffered.{buffer_of}
use Rattle.nanorand.specs.generators.ChaChaGroups.{chacha_group, next_group}
use Rattle.nanorand_calls.specs.ChaChaStates.{chacha_at}
use Rattle.nanorand_calls.proofs.lemmas.{served_bytes, served_state}
use Rattle.nanorand_calls.proofs.keystream.served.Goals as goal

pub returns-clause-bytes : goal.returns-clause-bytes
returns-clause-bytes c =
    let n : ℕ = length c.args.buffer.now in
    let group = c.args.stream.now.group in
    let most : ℕ = min 511 c.args.stream.now.buffered in
    let same : c.min-buffered.result ≡ most = grind (arith, common_steps) in
    let part : 512 - c.min-buffered.result + n - (512 - c.min-buffered.result) ≡ n = omega arith in
    let enough : n ≤ length (drop (512 - most) group) = rw (length-drop) (omega (arith, same)) in
    c.copy_from_slice.ensures.after ∙ ap (λ k. take k (drop (512 - c.min-buffered.result) group)) part
    ∙ ap (λ k. take n (drop (512 - k) group)) same
    ∙ sym (served_bytes (chacha_group 20) next_group 512 (drop (512 - most) group) (chacha_at c.args.stream.now.chacha) n
    enough)

pub returns-clause-state : goal.returns-clause-state
returns-clause-state c =
    let n : ℕ = length c.args.buffer.now in
    let group = c.args.stream.now.group in
    let inner = chacha_at c.args.stream.now.chacha in
    let most : ℕ = min 511 c.args.stream.now.buffered in
    let same : c.min-buffered.result ≡ most = grind (arith, common_steps) in
    let enough : n ≤ length (drop (512 - most) group) = rw (length-drop) (omega (arith, same)) in
    let later : 512 - min 511 (c.min-buffered.result - n) ≡ 512 - most + n = omega (arith, same) in
    ap (λ k. buffer_of (drop k group) inner) later
    ∙ ap (λ rest. buffer_of rest inner) (sym (drop-drop n (512 - most) group))
    ∙ sym (served_state (chacha_group 20) next_group 512 (drop (512 - most) group) inner n enough)
