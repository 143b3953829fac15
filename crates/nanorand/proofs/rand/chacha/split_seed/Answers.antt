use Rattle.std.proofs.Common.{drop, arith, ◌∙◌}
use Rattle.std.proofs.lemmas.List.{take_all, length-drop}
use Rattle.nanorand.proofs.rand.chacha.split_seed.Goals as goal

pub returns-clause-nonce : goal.returns-clause-nonce
returns-clause-nonce c =
    c.copy_from_slice-2.ensures.after
    ∙ take_all 8 (drop 32 c.args.seed.now) (omega (arith, c.told-seed, length-drop 32 c.args.seed.now))
