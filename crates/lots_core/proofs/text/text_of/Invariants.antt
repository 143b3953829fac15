use Rattle.std.proofs.Common.{◌≡◌, take, map}
use Rattle.lots_core.specs.Text.{text_of}
use Rattle.lots_core.proofs.text.text_of.Given as goal

abbrev pub invariant-lines : goal.invariant-lines
invariant-lines g l = l.text.items ≡ text_of (map (λ line. line.now) (take l.line-index l.lines))
