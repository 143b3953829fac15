use Rattle.std.proofs.Common.{rules, sym, ◌∙◌}
use Rattle.nanorand.specs.generators.ChaChaRounds.{IsMatrix}
use Rattle.nanorand.proofs.lemmas.chacha.InverseLemmas.{rounds_are_injective}
use Rattle.nanorand.proofs.crypto.chacha.inverse.chacha_unrounds.Goals as goal

pub returns-clause-only : goal.returns-clause-only
returns-clause-only g c x matrix same =
    let back : IsMatrix c.unmix.result = record { sixteen = search rules; words = search rules } in
    rounds_are_injective g.row.ROUNDS c.unmix.result x c.requires back matrix (c.unmix.ensures ∙ sym same)
