use Rattle.std.proofs.Common.{◌≡◌, length, ap, rules, ◌∙◌}
use Rattle.nanorand.specs.generators.Pcg64.{initial_generator}
use Rattle.nanorand.proofs.lemmas.generators.SeedLemmas.{number_of_16}
use Rattle.nanorand.proofs.rand.pcg64.Pcg64.new.Goals as goal

pub returns-clause-made : goal.returns-clause-made
returns-clause-made g c =
    let long : length c.system.new.out ≡ 16 = c.system.auto.out in
    let seed = c.from_le_bytes.ensures ∙ number_of_16 c.system.new.out long in
    (c.system.new.out, long, search rules, c.new_seed.ensures ∙ ap initial_generator seed)
