use Rattle.std.proofs.Common.{List, ◌++◌, take}
use Rattle.std.specs.Fn.{CalledAtMut}
use Rattle.nanorand_core.specs.values.Fills.{CallsReturn}
use Rattle.nanorand_core.proofs.values.fill_with.Given as goal

-- the calls so far and any calls that follow are calls from the beginning
abbrev pub invariant-loop-item : goal.invariant-loop-item
invariant-loop-item g l = record {
  callable : goal.F-IsAlwaysCallable g l.draw;
  ran : (xs : List g.row.T.Denot) (end : g.row.G.Denot) → CallsReturn (CalledAtMut g.F.FnMut) l.draw l.rng xs end
      → CallsReturn (CalledAtMut g.F.FnMut) l.fn.draw l.fn.rng (take l.item-index l.target ++ xs) end;
}
