-- A replay of two lists of calls, one after the other.
use Rattle.std.proofs.Common.{[], ◌∷◌, ap, refl}
use Rattle.nanorand_core.specs.generators.Blocks.{Requests}
use Rattle.nanorand_replay.specs.replay.Replay.{Replay, outcome, ReplaysJoin}

module _ {G : Type 0} (requests : Requests G) where
  pub joined : ReplaysJoin requests
  joined g items [] others = refl
  joined g items (call ∷ calls) others =
      let first = outcome requests g items call in
      ap (λ (rest : Replay G). record { answers = first.answer ∷ rest.answers; items = rest.items; state = rest.state })
      (joined first.state first.items calls others)
