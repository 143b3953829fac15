use Rattle.std.proofs.Common.{ℕ, ◌-◌}
use Rattle.nanorand_core.specs.values.Draws.{next_word, after_word, word_limit}
use Rattle.nanorand_core.proofs.lemmas.ranges.RunLemmas.{judged}
use Rattle.nanorand_core.proofs.lemmas.ranges.DrawLemmas.{Drawn}
use Rattle.nanorand_core.proofs.values.word.draw_below.Given as goal

-- the greatest number of words that the loop draws
abbrev pub limit : ℕ
limit = word_limit

-- every word so far was rejected, or the last one decided
abbrev pub invariant-others : goal.invariant-others
invariant-others g l =
    Drawn (next_word g.G.Rng.requests l.bits) (after_word g.G.Rng.requests l.bits) limit l.bits l.size-2 l.fn.rng
    (judged l.bits l.size-2 l.product) l.drawn l.rng

abbrev pub decreases-others : goal.decreases-others
decreases-others g l = limit - l.drawn
