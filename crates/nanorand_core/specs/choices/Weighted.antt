-- Weighted choice: the numbers below the sum of the weights are divided into consecutive shares,
-- one for each item, each as long as the item's weight.
use Rattle.std.specs.Prelude.{◌≡◌, ℕ, suc, ◌+◌, ◌-◌, ◌*◌, ◌<◌, ◌≤◌, ◌^◌, ◌==◌, List, [], ◌∷◌, length, Option, Result}
use Rattle.std.specs.Prelude.{Ok, Err, sum, take, slice_index, nat_le, nat_lt, ok_or, is_ok, option_map, if◌then◌else◌}
use Rattle.nanorand_core.specs.generators.Blocks.{Requests}
use Rattle.nanorand_core.specs.values.Runs.{IsWordWidth, named, quota, words_that}
use Rattle.nanorand_core.specs.values.Draws.{drawn_below}
use Rattle.nanorand_core.specs.values.Fairness.{passes}
use Rattle.nanorand_core.specs.declared.choices.weighted.WeightError.{WeightError}
use Rattle.nanorand_core.specs.declared.choices.weighted.WeightError.TheVariants.{NoWeight, TooHeavy, Exhausted}

-- The number k is in the share of item i: it is at least the sum of the weights before i, and below
-- that sum plus the weight of i.
pub record IsInShare (weights : List ℕ) (k i : ℕ) : Type 0 where
  pub from : sum (take i weights) ≤ k
  pub before_end : k < sum (take i weights) + slice_index weights i

-- The index of the item whose share contains the number k.
abbrev pub item_at : List ℕ → ℕ → ℕ
item_at [] k = 0
item_at (weight ∷ weights) k = if nat_lt k weight then 0 else suc (item_at weights (k - weight))

-- The sum of the weights, or the error if nothing can be drawn: the sum is 0, or 2^64 or more.
abbrev pub total_of : List ℕ → Result ℕ WeightError
total_of weights =
    if sum weights == 0 then Err NoWeight
    else if nat_le (2 ^ 64) (sum weights) then Err TooHeavy
    else Ok (sum weights)

module _ {G : Type 0} (requests : Requests G) where
  -- The number below the sum of the weights that the next 128 words give, if they give one.
  abbrev pub number_for : List ℕ → G → Option ℕ
  number_for weights g = (drawn_below requests 64 (sum weights) g).number

  -- The result of a choice: the item whose share contains that number, or the error.
  abbrev pub choice_answer : List ℕ → G → Result ℕ WeightError
  choice_answer weights g =
      if sum weights == 0 then Err NoWeight
      else if nat_le (2 ^ 64) (sum weights) then Err TooHeavy
      else ok_or (option_map (item_at weights) (number_for weights g)) Exhausted

  -- The state that a choice leaves: the state after the deciding word, or after all 128 words. If
  -- the sum of the weights is 0, or 2^64 or more, nothing is drawn.
  abbrev pub choice_state : List ℕ → G → G
  choice_state weights g =
      if is_ok (total_of weights) then (drawn_below requests 64 (sum weights) g).state else g

-- The item that a word of `bits` bits names, if it names one.
abbrev pub item_named : ℕ → List ℕ → ℕ → Option ℕ
item_named bits weights word = option_map (item_at weights) (named bits (sum weights) word)

-- For every word width and all weights whose sum is from 1 to 2^bits: the number of words that name
-- an item is its weight times the number of words that name one number.
abbrev pub ChoicesAreFair : Type 0
ChoicesAreFair =
    (bits : ℕ) (weights : List ℕ) (i : ℕ) → IsWordWidth bits → 1 ≤ sum weights
    → sum weights ≤ 2 ^ bits → i < length weights
    → words_that bits (λ word. passes (λ j. j == i) (item_named bits weights word))
    ≡ slice_index weights i * quota bits (sum weights)
