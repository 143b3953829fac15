use Rattle.std.proofs.Common.{ℕ, ◌-◌, length}
use Rattle.nanorand_core.specs.shuffles.Shuffles.{from_itself}
use Rattle.nanorand_core.specs.values.Draws.{next_word, after_word, word_limit}
use Rattle.nanorand_core.proofs.lemmas.ranges.DrawLemmas.{Drawn}
use Rattle.nanorand_core.proofs.lemmas.shuffles.ShuffleLemmas.{Shuffling}
use Rattle.nanorand_core.proofs.rand.Rng.shuffle.Given as goal

-- the greatest number of words that the loop draws for one index
abbrev pub limit : ℕ
limit = word_limit

abbrev pub invariant-loop-place : goal.invariant-loop-place
invariant-loop-place g l =
    Shuffling g.Self.Rng.requests from_itself (length l.fn.target) l.fn.target l.fn.self l.place l.self l.target

-- the steps so far led to a state from which every word was rejected, or the last one decided
abbrev pub invariant-others : goal.invariant-others
invariant-others g l = record {
  start : g.row.Self.Denot;
  so_far : Shuffling g.Self.Rng.requests from_itself (length l.fn.target) l.fn.target l.fn.self l.place start l.target;
  draw : Drawn (next_word g.Self.Rng.requests 64) (after_word g.Self.Rng.requests 64) limit 64 l.left start l.ahead l.drawn l.self;
}

abbrev pub decreases-others : goal.decreases-others
decreases-others g l = limit - l.drawn
