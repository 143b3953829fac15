-- The items of a reservoir, from the numbers that its words draw in turn.
use Rattle.std.proofs.Common.{◌≡◌, ℕ, zero, suc, ◌+◌, ◌*◌, ◌^◌, ◌<◌, ◌≤◌, List, set, Option, Some, None, refl, arith}
use Rattle.std.specs.List.{range_with_len}
use Rattle.nanorand_core.specs.generators.Blocks.{Requests}
use Rattle.nanorand_core.specs.values.Draws.{word_limit}
use Rattle.nanorand_core.specs.samples.Reservoir.{passed}
use Rattle.nanorand_fairness.specs.InTurn.{numbers_from}
use Rattle.nanorand_fairness.specs.Reservoirs.{replaced_by}
use Rattle.nanorand_fairness.proofs.lemmas.streams.Turns.{draws_first}
use Rattle.nanorand_core.specs.values.Draws.{next_word, after_word}
use Rattle.nanorand_fairness.proofs.lemmas.streams.Samples.{First, draw, outcome, words}

module _ {G : Type 0} (requests : Requests G) where
  -- a pass over `left` items, from n words
  abbrev InTurn : ℕ → ℕ → ℕ → G → List ℕ → Type 0
  InTurn left i n g chosen = (passed requests i left g chosen).chosen
      ≡ replaced_by i (numbers_from 64 (range_with_len (i + 1) left) word_limit (words requests n g)) chosen

  one_more : (left i n : ℕ) (g : G) (chosen : List ℕ) (o : Option ℕ) → (draw requests i g).number ≡ o → i < 2 ^ 64 → First requests left i n g
      → ((m : ℕ) (h : G) (later : List ℕ) → word_limit * left ≤ m → InTurn left (i + 1) m h later)
      → InTurn (suc left) i n g chosen
  one_more left i n g chosen None is fits turn rest = rw (outcome requests i g fits, turn.2, is) refl
  one_more left i n g chosen (Some k) is fits turn rest =
      let number : 0 + k ≡ k = omega arith in
      rw (outcome requests i g fits, turn.2, is, number) (rest turn.0 (draw requests i g).state (set chosen k i) turn.1)

  pub reservoir_in_turn : (left i n : ℕ) (g : G) (chosen : List ℕ) → i + left ≤ 2 ^ 64 → word_limit * left ≤ n → InTurn left i n g chosen
  reservoir_in_turn zero i n g chosen fits long = refl
  reservoir_in_turn (suc left) i n g chosen fits long =
      one_more left i n g chosen (draw requests i g).number refl (omega arith)
      (draws_first (next_word requests 64) (after_word requests 64) 64 (i + 1) (range_with_len (i + 1 + 1) left)
      (word_limit * left) word_limit n g (omega arith))
      (λ m h later enough. reservoir_in_turn left (i + 1) m h later (omega arith) enough)
