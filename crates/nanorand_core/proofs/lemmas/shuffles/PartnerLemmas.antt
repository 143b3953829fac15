-- Partners as draws from their ranges, and shuffles of no items and of three.
use Rattle.std.proofs.Common.{◌≡◌, ℕ, ◌+◌, ◌-◌, ◌^◌, ◌<◌, ◌≤◌, List, [], ◌∷◌, Some, None, Result, Ok, Err, length, map}
use Rattle.std.proofs.Common.{min, nat_le, nat_lt, refl, ap, ◌∙◌, arith}
use Rattle.std.specs.List.{range_with_len}
use Rattle.nanorand_core.specs.generators.Blocks.{Requests}
use Rattle.nanorand_core.specs.values.Range.{unsigned_number, unsigned_range}
use Rattle.nanorand_core.specs.values.Draws.{word_limit, number_drawn, left_after, next_word, after_word, range_outcome}
use Rattle.nanorand_core.specs.shuffles.Shuffles.{from_itself, partner_drawn, choices_from, shuffle_choices, shuffle_answer, shuffle_state, state_after_places}
use Rattle.nanorand_core.specs.declared.values.range.RangeError.{RangeError}
use Rattle.nanorand_core.specs.declared.values.range.RangeError.TheVariants.{Exhausted}
use Rattle.std.specs.declared.ops.Bound.TheVariants.{Included, Excluded}
use Rattle.nanorand_core.proofs.lemmas.ranges.RangeLemmas.{range-places, value-number, value-exhausted, left-drawn}

-- The numbers from a to b - 1, without going through all numbers of 64 bits.
pub numbers_between : (a b : ℕ) → a < b → b ≤ 2 ^ 64 → unsigned_range 64 (Included a) (Excluded b) ≡ map unsigned_number (range_with_len a (b - a))
numbers_between a b some within =
    range-places nat_le nat_lt 64 unsigned_number (Included a) (Excluded b) a b (λ k. refl) (λ k in_type. refl) within some

-- the partner of index i, from a number drawn below the count of the items left
module _ {G : Type 0} (requests : Requests G) (n i : ℕ) (g : G) (low : i < n) (within : n ≤ 2 ^ 64) where
  pub partner-number : (k : ℕ) → k < n - i
      → Some k ≡ number_drawn (next_word requests 64) (after_word requests 64) word_limit 64 (n - i) g
      → Ok (i + k) ≡ (partner_drawn requests from_itself n i g).0
  unfolding partner_drawn
  partner-number k below number =
      value-number _ _ _ _ _ _ (omega arith) _ (numbers_between i n low within) _ k below number

  pub partner-exhausted : None ≡ number_drawn (next_word requests 64) (after_word requests 64) word_limit 64 (n - i) g
      → Err Exhausted ≡ (partner_drawn requests from_itself n i g).0
  unfolding partner_drawn
  partner-exhausted number =
      value-exhausted _ _ _ _ _ _ (omega arith) _ (numbers_between i n low within) _ number

  pub partner-state : (h : G) → h ≡ left_after (next_word requests 64) (after_word requests 64) word_limit 64 (n - i) g
      → h ≡ (partner_drawn requests from_itself n i g).1
  unfolding partner_drawn
  partner-state h state =
      left-drawn _ _ _ _ _ _ (omega arith) _ (numbers_between i n low within) _ h state

-- the outcome of a shuffle: its result, its choices and the state that it leaves
pub record Makes {G : Type 0} (requests : Requests G) (first : ℕ → ℕ) (n : ℕ) (g : G)
    (answer : Result (Unit {0}) RangeError) (choices : List ℕ) (left : G) : Type 0 where
  pub answered : shuffle_answer requests first n g ≡ answer
  pub chosen : shuffle_choices requests first n g ≡ choices
  pub leaves : shuffle_state requests first n g ≡ left

module _ {G : Type 0} (requests : Requests G) (first : ℕ → ℕ) where
  -- a partner drawn from the numbers of its range
  pub partner_between : (n i : ℕ) (g : G) → first i < n → n ≤ 2 ^ 64
      → partner_drawn requests first n i g ≡ range_outcome requests 64 (map unsigned_number (range_with_len (first i) (n - first i))) g
  unfolding partner_drawn
  partner_between n i g some within =
      ap (λ numbers. range_outcome requests 64 numbers g) (numbers_between (first i) n some within)

  -- shuffles of no items, of three items by their partners, and of three items where the draw of
  -- the first or second partner returns an error
  pub none_to_shuffle : (g : G) → Makes requests first 0 g (Ok tt) [] g
  unfolding choices_from state_after_places
  none_to_shuffle g = record { answered = refl; chosen = refl; leaves = refl }

  pub three_partners : (g0 g1 g2 g3 : G) (a b c : ℕ)
      → partner_drawn requests first 3 0 g0 ≡ (Ok a, g1)
      → partner_drawn requests first 3 1 g1 ≡ (Ok b, g2)
      → partner_drawn requests first 3 2 g2 ≡ (Ok c, g3)
      → Makes requests first 3 g0 (Ok tt) (a ∷ b ∷ c ∷ []) g3
  unfolding choices_from state_after_places
  three_partners g0 g1 g2 g3 a b c x y z =
      let chosen : shuffle_choices requests first 3 g0 ≡ a ∷ b ∷ c ∷ [] = rw (x, y, z) refl in
      record {
        answered = rw chosen refl;
        chosen = chosen;
        leaves = ap (λ choices. state_after_places requests first 3 0 (min 3 (length choices + 1)) g0) chosen
            ∙ ap (λ drawn. state_after_places requests first 3 1 2 drawn.1) x
            ∙ ap (λ drawn. state_after_places requests first 3 2 1 drawn.1) y
            ∙ ap (λ drawn. drawn.1) z;
      }

  pub first_refused : (g0 g1 : G)
      → partner_drawn requests first 3 0 g0 ≡ (Err Exhausted, g1)
      → Makes requests first 3 g0 (Err Exhausted) [] g1
  unfolding choices_from state_after_places
  first_refused g0 g1 x =
      let chosen : shuffle_choices requests first 3 g0 ≡ [] = rw x refl in
      record {
        answered = rw chosen refl;
        chosen = chosen;
        leaves = ap (λ choices. state_after_places requests first 3 0 (min 3 (length choices + 1)) g0) chosen ∙ ap (λ drawn. drawn.1) x;
      }

  pub second_refused : (g0 g1 g2 : G) (a : ℕ)
      → partner_drawn requests first 3 0 g0 ≡ (Ok a, g1)
      → partner_drawn requests first 3 1 g1 ≡ (Err Exhausted, g2)
      → Makes requests first 3 g0 (Err Exhausted) (a ∷ []) g2
  unfolding choices_from state_after_places
  second_refused g0 g1 g2 a x y =
      let chosen : shuffle_choices requests first 3 g0 ≡ a ∷ [] = rw (x, y) refl in
      record {
        answered = rw chosen refl;
        chosen = chosen;
        leaves = ap (λ choices. state_after_places requests first 3 0 (min 3 (length choices + 1)) g0) chosen
            ∙ ap (λ drawn. state_after_places requests first 3 1 1 drawn.1) x
            ∙ ap (λ drawn. drawn.1) y;
      }
