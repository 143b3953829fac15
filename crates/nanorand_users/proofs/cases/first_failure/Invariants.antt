use Rattle.std.proofs.Common.{◌≡◌, ◌<◌, ℕ, true}
use Rattle.nanorand.specs.generators.WyRand.{wyrand_after}
use Rattle.nanorand_users.specs.Cases.{case_seed}
use Rattle.nanorand_users.proofs.cases.first_failure.Given as goal

-- The property holds in the cases so far, and one word was drawn for each case.
abbrev pub invariant-loop-number : goal.invariant-loop-number
invariant-loop-number g l = record {
  held : (number : ℕ) → number < l.number → g.P.Property.holds l.property (g.T.RandomGen.value (case_seed l.seed number)) ≡ true;
  drawn : l.stream ≡ wyrand_after l.number l.seed;
}
