use Rattle.std.proofs.Common.{get_or, inl, inr, rules}
use Rattle.std.proofs.lemmas.Bool.Decides.{eqb_tells}
use Rattle.nanorand_core.specs.support.Chains.{chain_of}
use Rattle.nanorand_core.proofs.samples.link.Goals as goal

-- the place is the last of its own chain, and belongs to no other chain
pub returns-then-chains-gt0-clause-chained : goal.returns-then-chains-gt0-clause-chained
returns-then-chains-gt0-clause-chained c =
    let own = chain_of c.args.chains (get_or c.args.places.now c.args.slot 0) in (
      (λ chain below. elim (eqb_tells chain own) [ inl same ↦ search rules | inr other ↦ search rules ]),
      (λ place some within. let old = c.requires.chained.1 place some in
          elim (eqb_tells place c.args.slot) [ inl same ↦ search rules | inr other ↦ search rules ]),
    )
