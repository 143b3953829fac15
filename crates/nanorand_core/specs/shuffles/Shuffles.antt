-- The Fisher-Yates shuffle in Durstenfeld's form, by swaps in place: first the choices, one for
-- each index, and then the permutation that they make.
use Rattle.std.specs.Prelude.{ℕ, zero, suc, ◌+◌, ◌==◌, List, [], ◌∷◌, length, min, fold, swap, Result, Ok, Err, if◌then◌else◌}
use Rattle.std.specs.List.{enumerate_from}
use Rattle.std.specs.declared.ops.Bound.TheVariants.{Included, Excluded}
use Rattle.nanorand_core.specs.generators.Blocks.{Requests}
use Rattle.nanorand_core.specs.values.Draws.{unsigned_outcome}
use Rattle.nanorand_core.specs.declared.values.range.RangeError.{RangeError}
use Rattle.nanorand_core.specs.declared.values.range.RangeError.TheVariants.{Exhausted}

-- The items after the choices for the indices from i on: for each index in turn, the item there and
-- the item at its choice are swapped.
abbrev pub arranged_from : {T : Type 0} → ℕ → List ℕ → List T → List T
arranged_from i choices items =
    fold (λ xs move. swap xs move.0 move.1) items (enumerate_from i choices)

-- The items after the choices for the indices from 0 on.
abbrev pub arranged : {T : Type 0} → List ℕ → List T → List T
arranged choices items = arranged_from 0 choices items

-- The lowest allowed partner of index i if all indices are allowed: 0.
abbrev pub from_all : ℕ → ℕ
from_all i = 0

-- The lowest allowed partner of index i if only i and later indices are allowed: i itself. Then an
-- item stays in place once its index was passed.
abbrev pub from_itself : ℕ → ℕ
from_itself i = i

-- A choice, followed by the other choices. If the draw of the choice returned an error, the list
-- ends there.
abbrev pub choice_before : Result ℕ RangeError → List ℕ → List ℕ
choice_before (Ok choice) choices = choice ∷ choices
choice_before (Err refusal) choices = []

-- A shuffle of n items. The partner of index i is drawn from the indices `first i` to n - 1.
module _ {G : Type 0} (requests : Requests G) (first : ℕ → ℕ) (n : ℕ) where
  -- The result of drawing the partner of index i, and the state after the draw.
  unfoldable pub partner_drawn : ℕ → G → Result ℕ RangeError × G
  partner_drawn i g = unsigned_outcome requests 64 g (Included (first i)) (Excluded n)

  -- The choices for `left` indices from i on, up to the first draw that returns an error.
  unfoldable pub choices_from : ℕ → ℕ → G → List ℕ
  choices_from i zero g = []
  choices_from i (suc left) g =
      choice_before (partner_drawn i g).0 (choices_from (i + 1) left (partner_drawn i g).1)

  -- The state after a draw for each of `count` indices from i on.
  unfoldable pub state_after_places : ℕ → ℕ → G → G
  state_after_places i zero g = g
  state_after_places i (suc count) g = state_after_places (i + 1) count (partner_drawn i g).1

  -- The choices of the first `steps` indices: all of them, or those before the first error.
  abbrev pub partial_choices : ℕ → G → List ℕ
  partial_choices steps g = choices_from 0 steps g

  -- The result of these steps: `Ok` if there is a choice for each, otherwise `Exhausted`. It is
  -- never `Empty`, since the range of a partner contains at least i.
  abbrev pub partial_answer : ℕ → G → Result (Unit {0}) RangeError
  partial_answer steps g =
      if length (partial_choices steps g) == steps then Ok tt else Err Exhausted

  -- The state after the draws of these steps, including the draw that returned an error.
  abbrev pub partial_state : ℕ → G → G
  partial_state steps g = state_after_places 0 (min steps (length (partial_choices steps g) + 1)) g

  -- The choices of the whole shuffle, which has n steps.
  abbrev pub shuffle_choices : G → List ℕ
  shuffle_choices g = partial_choices n g

  -- The result of the whole shuffle.
  abbrev pub shuffle_answer : G → Result (Unit {0}) RangeError
  shuffle_answer g = partial_answer n g

  -- The state after the whole shuffle.
  abbrev pub shuffle_state : G → G
  shuffle_state g = partial_state n g

-- The outcome of a shuffle: its result, the choices that it makes, and the items and the state that
-- it leaves.
pub record Shuffle (G T : Type 0) : Type 0 where
  pub answer : Result (Unit {0}) RangeError
  pub choices : List ℕ
  pub items : List T
  pub state : G

-- A shuffle of the items from state g. The partner of index i is drawn from `first i` and the
-- indices after it.
abbrev pub shuffled : {G T : Type 0} → Requests G → (ℕ → ℕ) → G → List T → Shuffle G T
shuffled requests first g items =
    let count = length items in
    let choices = shuffle_choices requests first count g in
    record {
      answer = shuffle_answer requests first count g;
      choices = choices;
      items = arranged choices items;
      state = shuffle_state requests first count g;
    }

-- The same, ended after `steps` indices, or after all of them if there are fewer. Partners are
-- still drawn from all the items.
abbrev pub partly_shuffled : {G T : Type 0} → Requests G → (ℕ → ℕ) → ℕ → G → List T
    → Shuffle G T
partly_shuffled requests first steps g items =
    let count = length items in
    let done = min steps count in
    let choices = partial_choices requests first count done g in
    record {
      answer = partial_answer requests first count done g;
      choices = choices;
      items = arranged choices items;
      state = partial_state requests first count done g;
    }
