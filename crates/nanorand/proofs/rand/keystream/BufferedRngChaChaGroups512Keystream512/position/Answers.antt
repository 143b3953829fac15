use Rattle.std.proofs.Common.{ℕ, ◌+◌, ◌-◌, ◌*◌, ◌%◌, ◌^◌, ap, ap₂, ◌∙◌, arith, subst}
use Rattle.nanorand.specs.generators.ChaCha.{counter}
use Rattle.nanorand.specs.generators.ChaChaRounds.{IsMatrix}
use Rattle.nanorand.proofs.lemmas.generators.StreamLemmas.{position_moves}
use Rattle.nanorand.proofs.rand.keystream.BufferedRngChaChaGroups512Keystream512.position.Goals as goal

pub returns-clause-value : goal.returns-clause-value
returns-clause-value g c =
    ap₂ (λ (n k : ℕ). (n * 64 + 2 ^ 70 - k) % 2 ^ 70)
    (c.from-ahead.ensures ∙ c.counter.ensures.value ∙ ap counter c.inner.ensures) c.buffered.ensures.value

pub returns-clause-moves : goal.returns-clause-moves
returns-clause-moves g c = λ n.
    position_moves g.row.ROUNDS c.args.self.now n (subst IsMatrix c.inner.ensures c.counter.ensures.matrix)
    (omega (arith, c.buffered.ensures.value, c.buffered.ensures.below))
