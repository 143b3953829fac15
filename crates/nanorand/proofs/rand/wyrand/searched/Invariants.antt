use Rattle.std.proofs.Common.{ℕ, ◌+◌, ◌-◌, ◌%◌, ◌^◌}
use Rattle.nanorand_core.specs.values.Draws.{next_word, after_word, word_limit}
use Rattle.nanorand_core.proofs.lemmas.ranges.DrawLemmas.{Drawn}
use Rattle.nanorand.specs.generators.WyRand.{increment, wyrand_requests}
use Rattle.nanorand.proofs.rand.wyrand.searched.Given as goal

-- the seed before a draw
abbrev pub before : ℕ → ℕ
before after = (after + (2 ^ 64 - increment)) % 2 ^ 64

-- every word so far was rejected, or the last one decided
abbrev pub invariant-words : goal.invariant-words
invariant-words l = Drawn (next_word wyrand_requests 64) (after_word wyrand_requests 64) word_limit 64 l.left (before l.fn.after) l.number l.drawn l.now

abbrev pub decreases-words : goal.decreases-words
decreases-words l = word_limit - l.drawn
