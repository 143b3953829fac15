-- A draw from a range whose first word decides.
use Rattle.std.proofs.Common.{◌≡◌, ℕ, ◌+◌, ◌-◌, ◌*◌, ◌/◌, ◌%◌, ◌^◌, ◌<◌, ◌≤◌, Ok, Some, false, nat_lt, nat_le, map, refl, rules, ◌∙◌, arith}
use Rattle.std.specs.List.{range_with_len}
use Rattle.std.specs.declared.ops.Bound.TheVariants.{Included}
use Rattle.nanorand_core.specs.generators.Blocks.{Requests}
use Rattle.nanorand_core.specs.values.Range.{unsigned_number, unsigned_range}
use Rattle.nanorand_core.specs.values.Runs.{named}
use Rattle.nanorand_core.specs.values.Draws.{after_word, next_word, word_limit}
use Rattle.nanorand_core.proofs.lemmas.ranges.DrawLemmas.{Ended, first_word}
use Rattle.nanorand_core.proofs.lemmas.ranges.RunLemmas.{judged-high, named-judged}
use Rattle.nanorand_core.proofs.lemmas.ranges.RangeLemmas.{left-drawn, range-places, value-number}
use Rattle.nanorand_calls.specs.Between.{between}

module _ {G : Type 0} (requests : Requests G) (bits first last word : ℕ) (g : G) (some : first ≤ last)
    (fits : last < 2 ^ bits) (is : word ≡ next_word requests bits g) (low : word < 2 ^ bits) where
  -- how many numbers there are
  abbrev size : ℕ
  size = last + 1 - first

  abbrev place : ℕ
  place = word * size / 2 ^ bits

  module _ (high : nat_lt (word * size % 2 ^ bits) size ≡ false) where
    decides : named bits size word ≡ Some place
    decides = named-judged bits size word (omega arith) low ∙ judged-high bits size (word * size) (omega arith) high

    ended : Ended (next_word requests bits) (after_word requests bits) word_limit bits size g (Some place) (after_word requests bits g)
    ended = (first_word (next_word requests bits) (after_word requests bits) word_limit bits size g _ word (omega arith) is decides).1

    numbers : unsigned_range bits (Included first) (Included last) ≡ map unsigned_number (range_with_len first size)
    numbers = range-places nat_le nat_lt bits unsigned_number (Included first) (Included last) first (last + 1)
        (λ k. refl) (λ k under. search rules) (omega arith) (omega arith)

    pub first-value : Ok (first + place) ≡ (between requests bits first last g).0
    first-value = value-number (next_word requests bits) (after_word requests bits) bits unsigned_number first size (omega arith) _ numbers g
        place ended.below ended.number

    pub first-state : after_word requests bits g ≡ (between requests bits first last g).1
    first-state = left-drawn (next_word requests bits) (after_word requests bits) bits unsigned_number first size (omega arith) _ numbers g
        _ ended.state

    pub first-within : first + place ≤ last
    first-within = let under : place < size = ended.below in omega arith
