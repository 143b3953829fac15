use Rattle.std.proofs.Common.{◌≡◌, ◌-◌, ◌++◌, length, take}
use Rattle.std.specs.Fn.{iterate}
use Rattle.nanorand_core.specs.values.Values.{values_from}
use Rattle.nanorand_core.proofs.rand.Rng.fill.Given as goal

-- the values so far, followed by those still to be drawn, are all values, and the final state is
-- the same
abbrev pub invariant-loop-item : goal.invariant-loop-item
invariant-loop-item g l =
    let after = g.T.RandomGen.state_after in
    record {
      values : take l.item-index l.target
          ++ values_from g.T.RandomGen.value after (length l.target - l.item-index) l.self
          ≡ values_from g.T.RandomGen.value after (length l.target) l.fn.self;
      state : iterate after (length l.target - l.item-index) l.self ≡ iterate after (length l.target) l.fn.self;
    }
