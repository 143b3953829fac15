-- The numbers of a sample, from the numbers that its words draw in turn.
use Rattle.std.proofs.Common.{◌≡◌, ℕ, zero, suc, ◌+◌, ◌*◌, ◌^◌, ◌<◌, ◌≤◌, List, Option, Some, None, Ok, Err, refl, arith}
use Rattle.std.specs.List.{range_with_len}
use Rattle.nanorand_core.specs.generators.Blocks.{Requests}
use Rattle.nanorand_core.specs.values.Draws.{word_limit, next_word, after_word, words_from, Draw, drawn_below}
use Rattle.nanorand_core.specs.samples.Samples.{joined, number_up_to, sampled_from}
use Rattle.nanorand_core.specs.declared.values.range.RangeError.TheVariants.{Exhausted}
use Rattle.nanorand_fairness.specs.InTurn.{by_word, numbers_from}
use Rattle.nanorand_fairness.specs.Samples.{sample_by}
use Rattle.nanorand_fairness.proofs.lemmas.streams.Turns.{DrawsFirst, draws_first}
use Rattle.nanorand_fairness.proofs.lemmas.streams.Ranges.{numbers_up_to}
use Rattle.nanorand_fairness.proofs.lemmas.streams.Outcomes.{outcome_by}

module _ {G : Type 0} (requests : Requests G) where
  abbrev pub words : ℕ → G → List ℕ
  words n g = words_from (next_word requests 64) (after_word requests 64) n g

  abbrev pub draw : ℕ → G → Draw G
  draw last g = drawn_below requests 64 (last + 1) g

  pub outcome : (last : ℕ) (g : G) → last < 2 ^ 64
      → number_up_to requests last g ≡ (by_word (draw last g).number (λ k. Ok (0 + k)) (Err Exhausted), (draw last g).state)
  unfolding number_up_to
  outcome last g fits = outcome_by requests 64 0 (last + 1) _ g (omega arith) (numbers_up_to 64 last fits)

  -- `left` draws, from n words
  abbrev InTurn : ℕ → ℕ → ℕ → G → List ℕ → Type 0
  InTurn left last n g sample = (sampled_from requests last left g sample).numbers
      ≡ sample_by last (numbers_from 64 (range_with_len (last + 1) left) word_limit (words n g)) sample

  -- the first of them
  abbrev pub First : ℕ → ℕ → ℕ → G → Type 0
  First left last n g =
      DrawsFirst (next_word requests 64) (after_word requests 64) 64 (last + 1) (range_with_len (last + 1 + 1) left) (word_limit * left) word_limit n g

  one_more : (left last n : ℕ) (g : G) (sample : List ℕ) (o : Option ℕ) → (draw last g).number ≡ o → last < 2 ^ 64 → First left last n g
      → ((m : ℕ) (h : G) (later : List ℕ) → word_limit * left ≤ m → InTurn left (last + 1) m h later)
      → InTurn (suc left) last n g sample
  one_more left last n g sample None is fits turn rest = rw (outcome last g fits, turn.2, is) refl
  one_more left last n g sample (Some k) is fits turn rest =
      let number : 0 + k ≡ k = omega arith in
      rw (outcome last g fits, turn.2, is, number) (rest turn.0 (draw last g).state (joined last k sample) turn.1)

  pub sample_in_turn : (left last n : ℕ) (g : G) (sample : List ℕ) → last + left ≤ 2 ^ 64 → word_limit * left ≤ n → InTurn left last n g sample
  sample_in_turn zero last n g sample fits long = refl
  sample_in_turn (suc left) last n g sample fits long =
      one_more left last n g sample (draw last g).number refl (omega arith)
      (draws_first (next_word requests 64) (after_word requests 64) 64 (last + 1) (range_with_len (last + 1 + 1) left)
      (word_limit * left) word_limit n g (omega arith))
      (λ m h later enough. sample_in_turn left (last + 1) m h later (omega arith) enough)
