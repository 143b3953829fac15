-- The choices of a shuffle, from the numbers that its words draw in turn.
use Rattle.std.proofs.Common.{◌≡◌, ℕ, zero, suc, ◌+◌, ◌-◌, ◌*◌, ◌^◌, ◌<◌, ◌≤◌, List, ◌∷◌, map, Option, Some, None, Ok, Err, refl, ap, arith}
use Rattle.std.specs.List.{range_with_len}
use Rattle.nanorand_core.specs.generators.Blocks.{Requests}
use Rattle.nanorand_core.specs.values.Draws.{word_limit, next_word, after_word, words_from, Draw, drawn_below}
use Rattle.nanorand_core.specs.shuffles.Shuffles.{from_itself, partner_drawn, choices_from}
use Rattle.nanorand_core.specs.declared.values.range.RangeError.TheVariants.{Exhausted}
use Rattle.nanorand_fairness.specs.InTurn.{by_word, numbers_from}
use Rattle.nanorand_fairness.specs.Deals.{choices_by}
use Rattle.nanorand_fairness.proofs.lemmas.streams.Turns.{DrawsFirst, draws_first}
use Rattle.nanorand_fairness.proofs.lemmas.streams.Ranges.{numbers_between}
use Rattle.nanorand_fairness.proofs.lemmas.streams.Outcomes.{outcome_by}

module _ {G : Type 0} (requests : Requests G) (count : ℕ) (fits : count ≤ 2 ^ 64) where
  abbrev words : ℕ → G → List ℕ
  words n g = words_from (next_word requests 64) (after_word requests 64) n g

  abbrev draw : ℕ → G → Draw G
  draw i g = drawn_below requests 64 (count - i) g

  abbrev sizes : ℕ → ℕ → List ℕ
  sizes i left = map (λ j. count - j) (range_with_len i left)

  outcome : (i : ℕ) (g : G) → i < count
      → partner_drawn requests from_itself count i g ≡ (by_word (draw i g).number (λ k. Ok (i + k)) (Err Exhausted), (draw i g).state)
  unfolding partner_drawn
  outcome i g more = outcome_by requests 64 i (count - i) _ g (omega arith) (numbers_between 64 i count fits)

  -- `left` draws, from n words
  abbrev InTurn : ℕ → ℕ → ℕ → G → Type 0
  InTurn left i n g = choices_from requests from_itself count i left g ≡ choices_by i (numbers_from 64 (sizes i left) word_limit (words n g))

  -- the first of them
  abbrev First : ℕ → ℕ → ℕ → G → Type 0
  First left i n g = DrawsFirst (next_word requests 64) (after_word requests 64) 64 (count - i) (sizes (i + 1) left) (word_limit * left) word_limit n g

  one_more : (left i n : ℕ) (g : G) (o : Option ℕ) → (draw i g).number ≡ o → i < count → First left i n g
      → ((m : ℕ) (h : G) → word_limit * left ≤ m → InTurn left (i + 1) m h) → InTurn (suc left) i n g
  unfolding choices_from
  one_more left i n g None is more turn rest = rw (outcome i g more, turn.2, is) refl
  one_more left i n g (Some k) is more turn rest =
      rw (outcome i g more, turn.2, is) (ap (λ (choices : List ℕ). (i + k) ∷ choices) (rest turn.0 (draw i g).state turn.1))

  pub choices_in_turn : (left i n : ℕ) (g : G) → i + left ≤ count → word_limit * left ≤ n → InTurn left i n g
  unfolding choices_from
  choices_in_turn zero i n g within long = refl
  choices_in_turn (suc left) i n g within long =
      one_more left i n g (draw i g).number refl (omega arith)
      (draws_first (next_word requests 64) (after_word requests 64) 64 (count - i) (sizes (i + 1) left) (word_limit * left) word_limit n g (omega arith))
      (λ m h enough. choices_in_turn left (i + 1) m h (omega arith) enough)
