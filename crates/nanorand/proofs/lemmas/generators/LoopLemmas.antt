-- A loop over a stream has the same results as tasks on its parts.
use Rattle.std.proofs.Common.{◌≡◌, ℕ, zero, suc, ◌+◌, ◌*◌, ◌<◌, ◌≤◌, List, ◌∷◌, map, refl, sym, ◌∙◌, ap, arith}
use Rattle.std.specs.Fn.{iterate}
use Rattle.std.specs.List.{range_with_len}
use Rattle.nanorand_core.specs.values.Values.{values_from}
use Rattle.nanorand_core.specs.generators.Blocks.{Requests}
use Rattle.nanorand.specs.generators.Parts.{after_draws, left_in_turn, next_turn, part_at, results_in_turn}
use Rattle.nanorand.specs.support.OnwardLemmas.{draws-leave}
use Rattle.nanorand.proofs.lemmas.generators.PartLemmas.{next-part}

module _ {G T : Type 0} (requests : Requests G) (task : ℕ → G → T × G) (draws : ℕ) (g : G) where
  abbrev start : ℕ → G
  start i = part_at requests draws i g

  -- task i, run on part i, leaves the stream where the next part begins
  abbrev Exact : ℕ → Type 0
  Exact i = (task i (start i)).1 ≡ after_draws requests draws (start i)

  next-start : (i : ℕ) → Exact i → next_turn task (i, start i) ≡ (i + 1, start (i + 1))
  next-start i exact = ap (λ (h : G). (i + 1, h)) (exact ∙ next-part requests draws i g)

  -- n tasks from part a on
  results-from : (a n : ℕ) → ((i : ℕ) → a ≤ i → i < a + n → Exact i)
      → values_from (λ turn. (task turn.0 turn.1).0) (next_turn task) n (a, start a) ≡ map (λ i. (task i (start i)).0) (range_with_len a n)
  results-from a zero exact = refl
  results-from a (suc n) exact =
      ap (λ (results : List T). (task a (start a)).0 ∷ results)
      (ap (values_from (λ turn. (task turn.0 turn.1).0) (next_turn task) n) (next-start a (exact a (omega arith) (omega arith)))
      ∙ results-from (a + 1) n (λ i from below. exact i (omega arith) (omega arith)))

  left-from : (a n : ℕ) → ((i : ℕ) → a ≤ i → i < a + n → Exact i)
      → (iterate (next_turn task) n (a, start a)).1 ≡ start (a + n)
  left-from a zero exact = ap start (let none : a ≡ a + 0 = omega arith in none)
  left-from a (suc n) exact =
      ap (λ (turn : ℕ × G). (iterate (next_turn task) n turn).1) (next-start a (exact a (omega arith) (omega arith)))
      ∙ left-from (a + 1) n (λ i from below. exact i (omega arith) (omega arith))
      ∙ ap start (let more : a + 1 + n ≡ a + suc n = omega arith in more)

  first-part : start 0 ≡ g
  first-part =
      let none : 0 * draws ≡ 0 = omega arith in
      ap (λ (n : ℕ). after_draws requests n g) none ∙ draws-leave requests 0 g

  pub results-of-loop : (count : ℕ) → ((i : ℕ) → i < count → Exact i)
      → results_in_turn task count g ≡ map (λ i. (task i (start i)).0) (range_with_len 0 count)
  results-of-loop count exact =
      ap (results_in_turn task count) (sym first-part) ∙ results-from 0 count (λ i from below. exact i (omega arith))

  pub left-of-loop : (count : ℕ) → ((i : ℕ) → i < count → Exact i) → left_in_turn task count g ≡ start count
  left-of-loop count exact =
      ap (left_in_turn task count) (sym first-part) ∙ left-from 0 count (λ i from below. exact i (omega arith))
      ∙ ap start (let none : 0 + count ≡ count = omega arith in none)
