use Rattle.std.proofs.Common.{◌≡◌, ℕ, length, refl, arith, ◌∙◌}
use Rattle.std.proofs.lemmas.List.{take_all, length-map}
use Rattle.std.proofs.lemmas.List.FromFn.{length-range_with_len}
use Rattle.std.specs.Prelude.{take}
use Rattle.std.specs.List.{range_with_len}
use Rattle.std.specs.Fn.{iterate}
use Rattle.nanorand_core.specs.values.Draws.{word_limit, words_from, left_after}
use Rattle.nanorand_fairness.proofs.laws.draws_by_words.Goals as goal

length-words : {G : Type 0} (word : G → ℕ) (after : G → G) (n : ℕ) (g : G) → length (words_from word after n g) ≡ n
unfolding words_from
length-words word after n g = length-map (range_with_len 0 n) (λ i. word (iterate after i g)) ∙ length-range_with_len 0 n

all-words : {G : Type 0} (word : G → ℕ) (after : G → G) (n : ℕ) (g : G) → take n (words_from word after n g) ≡ words_from word after n g
all-words word after n g = take_all n (words_from word after n g) (omega (arith, length-words word after n g))

pub returns-clause-number : goal.returns-clause-number
returns-clause-number g c = λ bits size start. rw (all-words _ _ word_limit start) refl

pub returns-clause-state : goal.returns-clause-state
unfolding left_after
returns-clause-state g c = λ bits size start. rw (all-words _ _ word_limit start, length-words _ _ word_limit start) refl
