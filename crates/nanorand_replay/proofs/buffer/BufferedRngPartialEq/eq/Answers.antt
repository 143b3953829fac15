use Rattle.std.proofs.Common.{◌==◌, ap₂, ◌∙◌}
use Rattle.std.specs.Cmp.Lexicographic.{pointwise, bytes_decides}
use Rattle.std.proofs.lemmas.Bool.Decides.{Decides-and}
use Rattle.nanorand_replay.specs.generators.Buffered.{Buffered}
use Rattle.nanorand_replay.proofs.buffer.BufferedRngPartialEq.eq.Goals as goal

pub returns-then-eq-clause-value : goal.returns-then-eq-clause-value
returns-then-eq-clause-value g c =
    let bytes = c.if-eq.ensures ∙ ap₂ (λ xs ys. pointwise ◌==◌ xs ys) c.rest.ensures.value c.rest-2.ensures.value in
    rw (← bytes) (c.eq-then-eq.ensures ∙ ap₂ (λ (a b : Buffered g.row.G.Denot). g.G.PartialEq.eq a.inner b.inner) c.self.view_is c.other.view_is)

pub returns-then-eq-clause-equal : goal.returns-then-eq-clause-equal
returns-then-eq-clause-equal g c =
    rw (returns-then-eq-clause-value g c) (Decides-and _ _ (bytes_decides c.args.self.now.rest c.args.other.now.rest) (λ same. same, λ same. same))
