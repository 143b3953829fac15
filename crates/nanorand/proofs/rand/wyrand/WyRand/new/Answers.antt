use Rattle.std.proofs.Common.{◌≡◌, length, rules, ◌∙◌}
use Rattle.nanorand.proofs.lemmas.generators.SeedLemmas.{number_of_8}
use Rattle.nanorand.proofs.rand.wyrand.WyRand.new.Goals as goal

pub returns-clause-made : goal.returns-clause-made
returns-clause-made g c =
    let long : length c.system.new.out ≡ 8 = c.system.auto.out in
    (c.system.new.out, long, search rules, c.new_seed.ensures ∙ c.from_le_bytes.ensures ∙ number_of_8 c.system.new.out long)
