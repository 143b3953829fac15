-- The draws of a shuffle so far, and their result. The partner of index i is drawn from `first i`
-- on.
use Rattle.std.proofs.Common.{◌≡◌, ℕ, zero, suc, ◌+◌, ◌-◌, ◌*◌, ◌^◌, ◌<◌, ◌≤◌, List, Result, ◌∷◌, Ok, Err, length}
use Rattle.std.proofs.Common.{get_or, take, drop, min, swap, nat_le, nat_lt, true, refl, sym, ◌∙◌, ap, arith, add-zero}
use Rattle.std.proofs.Common.{add-one, IsPermutation}
use Rattle.std.specs.declared.ops.Bound.TheVariants.{Included, Excluded}
use Rattle.std.proofs.lemmas.Bool.{ne_eqb, eq-eqb, le-leb, lt-ltb, leb-true, ltb-true}
use Rattle.std.proofs.lemmas.List.{length-drop, get_or-drop, drop-drop, take_all}
use Rattle.std.proofs.lemmas.List.Sorted.{IsPermutation-refl, IsPermutation-swap, IsPermutation-trans, length_permutation}
use Rattle.std.specs.Fn.{iterate}
use Rattle.std.specs.Result.{IfErr}
use Rattle.nanorand_core.specs.support.IterateLemmas.{iterate-add}
use Rattle.nanorand_core.specs.generators.Blocks.{Requests}
use Rattle.nanorand_core.specs.values.Range.{unsigned_number}
use Rattle.nanorand_core.specs.values.Draws.{next_word, after_word, after_words, word_limit}
use Rattle.nanorand_core.specs.shuffles.Shuffles.{arranged, from_itself, choice_before, partner_drawn, choices_from}
use Rattle.nanorand_core.specs.shuffles.Shuffles.{state_after_places, partial_choices, partial_state, partial_answer}
use Rattle.nanorand_core.specs.shuffles.Shuffles.{shuffle_choices}
use Rattle.nanorand_core.specs.declared.values.range.RangeError.{RangeError}
use Rattle.nanorand_core.specs.declared.values.range.RangeError.TheVariants.{Exhausted}
use Rattle.nanorand_core.specs.values.RangeLimits.{KeepsLimits}
use Rattle.nanorand_core.proofs.lemmas.ranges.LimitLemmas.{keeps_limits}
use Rattle.nanorand_core.specs.shuffles.Arrangements.{IsValid}
use Rattle.nanorand_core.proofs.lemmas.shuffles.ChoiceLemmas.{Chosen, arranged-more, valid_from_chosen}

-- the item at index i, and the items after it
drop-is : (xs : List ℕ) (i j : ℕ) (rest : List ℕ) → drop i xs ≡ j ∷ rest
    → (i < length xs) × (get_or xs i 0 ≡ j) × (drop (i + 1) xs ≡ rest)
drop-is xs i j rest is =
    let place : i + 0 ≡ i = omega arith in
    let here : get_or xs (i + 0) 0 ≡ j = sym (get_or-drop i xs 0 0) ∙ ap (λ ys. get_or ys 0 0) is in
    (omega (arith, length-drop i xs, ap length is), rw place at here, sym (drop-drop 1 i xs) ∙ ap (λ ys. drop 1 ys) is)

module _ {G : Type 0} (requests : Requests G) (first : ℕ → ℕ) (n i : ℕ) (g : G) where
  limits : KeepsLimits nat_le nat_lt 64 unsigned_number (after_word requests 64) (Included (first i)) (Excluded n) g (partner_drawn requests first n i g)
  unfolding partner_drawn
  limits = keeps_limits (next_word requests 64) (after_word requests 64) nat_le nat_lt 64 unsigned_number (Included (first i)) (Excluded n) g

  -- a partner is `first i` or a later index
  partner-within : (j : ℕ) → (partner_drawn requests first n i g).0 ≡ Ok j → (nat_le (first i) j ≡ true) × (nat_lt j n ≡ true)
  partner-within j is = rw is at limits.within

  pub partner-below : (j : ℕ) → Ok j ≡ (partner_drawn requests first n i g).0 → j < n
  partner-below j is = ltb-true j n (partner-within j (sym is)).1

  -- if there is an index to draw, the only error is `Exhausted`
  partner-refused : first i < n → n < 2 ^ 64 → (e : RangeError) → (partner_drawn requests first n i g).0 ≡ Err e → e ≡ Exhausted
  partner-refused low fits e is =
      rw is at (limits.some (first i) (omega arith) (le-leb (first i) (first i) (omega arith)) (lt-ltb (first i) n low))

-- a choice for index i, and choices for the later indices
chosen-more : (i n j : ℕ) (rest : List ℕ) → i ≤ j → j < n → Chosen (i + 1) n rest
    → (k : ℕ) → k < length (j ∷ rest) → (i + k ≤ get_or (j ∷ rest) k 0) × (get_or (j ∷ rest) k 0 < n)
chosen-more i n j rest from below h zero low = (omega (arith, from), below)
chosen-more i n j rest from below h (suc k) low =
    let more = h.each k (omega (arith, low)) in (omega (arith, more.0), more.1)

choice-chosen : (i n : ℕ) (drawn : Result ℕ RangeError) (rest : List ℕ)
    → ((j : ℕ) → drawn ≡ Ok j → (nat_le i j ≡ true) × (nat_lt j n ≡ true)) → Chosen (i + 1) n rest → Chosen i n (choice_before drawn rest)
choice-chosen i n (Err refusal) rest within h = record { each = λ k low. absurd (omega arith) }
choice-chosen i n (Ok j) rest within h =
    let at = within j refl in record { each = chosen-more i n j rest (leb-true i j at.0) (ltb-true j n at.1) h }

-- partners that are drawn from the index itself and the later ones are valid choices
module _ {G : Type 0} (requests : Requests G) (n : ℕ) where
  pub choices-chosen : (left i : ℕ) (g : G) → Chosen i n (choices_from requests from_itself n i left g)
  unfolding choices_from
  choices-chosen zero i g = record { each = λ k low. absurd (omega arith) }
  choices-chosen (suc left) i g =
      choice-chosen i n (partner_drawn requests from_itself n i g).0
      (choices_from requests from_itself n (i + 1) left (partner_drawn requests from_itself n i g).1)
      (partner-within requests from_itself n i g)
      (choices-chosen left (i + 1) (partner_drawn requests from_itself n i g).1)

  pub choices-valid : (g : G) → length (shuffle_choices requests from_itself n g) ≡ n → IsValid (shuffle_choices requests from_itself n g)
  choices-valid g size = valid_from_chosen n (shuffle_choices requests from_itself n g) size (choices-chosen n 0 g)

-- one more step, and the words of several steps
module _ {G : Type 0} (requests : Requests G) (first : ℕ → ℕ) (n : ℕ) where
  state-more : (a count : ℕ) (h : G) → state_after_places requests first n a (suc count) h
      ≡ (partner_drawn requests first n (a + count) (state_after_places requests first n a count h)).1
  unfolding state_after_places
  state-more a zero h = rw (add-zero a) refl
  state-more a (suc count) h =
      let place : a + 1 + count ≡ a + suc count = omega arith in
      rw (← place) (state-more (a + 1) count (partner_drawn requests first n a h).1)

  words-places : (i count : ℕ) (g : G)
      → (words : ℕ) × (words ≤ word_limit * count) × (state_after_places requests first n i count g ≡ after_words requests 64 words g)
  unfolding state_after_places
  words-places i zero g = (0, omega arith, refl)
  words-places i (suc count) g =
      let one = (limits requests first n i g).words in
      let rest = words-places (i + 1) count (partner_drawn requests first n i g).1 in (
        one.0 + rest.0,
        omega (arith, one.1, rest.1),
        rest.2 ∙ ap (iterate (after_word requests 64) rest.0) one.2 ∙ sym (iterate-add (after_word requests 64) one.0 rest.0 g),
      )

  pub partial-words : (steps : ℕ) (g : G)
      → (words : ℕ) × (words ≤ word_limit * steps) × (partial_state requests first n steps g ≡ after_words requests 64 words g)
  partial-words steps g =
      let draws = min steps (length (partial_choices requests first n steps g) + 1) in
      let words = words-places 0 draws g in
      let fewer : draws ≤ steps = omega arith in
      (words.0, omega (arith, words.1, fewer), words.2)

-- a shuffle of `steps` steps; the whole shuffle has as many as there are items
module _ {G T : Type 0} (requests : Requests G) (first : ℕ → ℕ) (steps : ℕ) (items : List T) (g : G) where
  -- i choices were drawn, which made `list` and left `now`
  pub record Shuffling (i : ℕ) (now : G) (list : List T) : Type 0 where
    pub room : steps ≤ length items
    pub drawn : drop i (partial_choices requests first (length items) steps g) ≡ choices_from requests first (length items) i (steps - i) now
    pub many : i ≤ length (partial_choices requests first (length items) steps g)
    pub reached : now ≡ state_after_places requests first (length items) 0 i g
    pub made : list ≡ arranged (take i (partial_choices requests first (length items) steps g)) items
    pub shuffled : IsPermutation items list

  -- the result of the shuffle, its state and its items
  pub record Shuffled (answer : Result (Unit {0}) RangeError) (now : G) (list : List T) : Type 0 where
    pub answered : answer ≡ partial_answer requests first (length items) steps g
    pub reason : IfErr answer (λ refusal. refusal ≡ Exhausted)
    pub left : now ≡ partial_state requests first (length items) steps g
    pub made : list ≡ arranged (partial_choices requests first (length items) steps g) items

  pub shuffling-start : steps ≤ length items → Shuffling 0 g items
  unfolding state_after_places
  shuffling-start room =
      let all : steps - 0 ≡ steps = omega arith in
      record { room = room; drawn = rw all refl; many = omega arith; reached = refl; made = refl; shuffled = IsPermutation-refl items }

module _ {G T : Type 0} {requests : Requests G} {first : ℕ → ℕ} {steps : ℕ} {items : List T} {g : G}
    {i : ℕ} {now : G} {list : List T} (m : Shuffling requests first steps items g i now list) where
  pub size : length list ≡ length items
  size = length_permutation items list m.shuffled

  -- the choice at i and those that follow
  next : i < steps → drop i (partial_choices requests first (length items) steps g)
      ≡ choice_before (partner_drawn requests first (length items) i now).0
      (choices_from requests first (length items) (i + 1) (steps - (i + 1)) (partner_drawn requests first (length items) i now).1)
  unfolding choices_from
  next low =
      let left : steps - i ≡ suc (steps - (i + 1)) = omega arith in
      let is = rw left at m.drawn in is

  pub choice-below : {j : ℕ} → Ok j ≡ (partner_drawn requests first (length items) i now).0 → j < length items
  choice-below {j} drawn = partner-below requests first (length items) i now j drawn

  -- the number drawn is the choice at i
  pub choice-drawn : {j : ℕ} → i < steps → Ok j ≡ (partner_drawn requests first (length items) i now).0
      → (i < length (partial_choices requests first (length items) steps g)) × (get_or (partial_choices requests first (length items) steps g) i 0 ≡ j)
      × (drop (i + 1) (partial_choices requests first (length items) steps g)
      ≡ choices_from requests first (length items) (i + 1) (steps - (i + 1)) (partner_drawn requests first (length items) i now).1)
  choice-drawn {j} low drawn =
      let is = rw (← drawn) at next low in
      drop-is (partial_choices requests first (length items) steps g) i j
      (choices_from requests first (length items) (i + 1) (steps - (i + 1)) (partner_drawn requests first (length items) i now).1) is

  pub shuffling-step : {j : ℕ} → i < steps → Ok j ≡ (partner_drawn requests first (length items) i now).0
      → Shuffling requests first steps items g (i + 1) (partner_drawn requests first (length items) i now).1 (swap list i j)
  shuffling-step {j} low drawn =
      let parts = choice-drawn low drawn in
      let to = choice-below drawn in
      record {
        room = m.room;
        drawn = parts.2;
        many = omega (arith, parts.0);
        reached = let place : 0 + i ≡ i = omega arith in rw (add-one i, state-more requests first (length items) 0 i g, place, ← m.reached) refl;
        made = rw (arranged-more (partial_choices requests first (length items) steps g) items i parts.0, parts.1, ← m.made) refl;
        shuffled = IsPermutation-trans items list (swap list i j) m.shuffled
            (IsPermutation-swap list (swap list i j) i j (omega (arith, size, m.room)) (omega (arith, size)) refl);
      }

  -- the choices end with an error
  module _ {e : RangeError} (low : i < steps) (drawn : Err e ≡ (partner_drawn requests first (length items) i now).0) where
    pub count-refused : length (partial_choices requests first (length items) steps g) ≡ i
    count-refused =
        let is = rw (← drawn) at next low in
        omega (arith, length-drop i (partial_choices requests first (length items) steps g), ap length is, m.many)

    pub refused : first i < length items → length items < 2 ^ 64
        → Shuffled requests first steps items g (Err e) (partner_drawn requests first (length items) i now).1 list
    refused from fits =
        let reason = partner-refused requests first (length items) i now from fits e (sym drawn) in
        let all = take_all i (partial_choices requests first (length items) steps g) (omega (arith, count-refused)) in
        let draws : min steps (length (partial_choices requests first (length items) steps g) + 1) ≡ suc i = omega (arith, count-refused) in
        let place : 0 + i ≡ i = omega arith in
        record {
          answered = rw (count-refused, ne_eqb i steps (λ same. omega arith), reason) refl;
          reason = reason;
          made = rw all at m.made;
          left = rw (draws, state-more requests first (length items) 0 i g, place, ← m.reached) refl;
        }

  -- all choices were drawn
  module _ (end : i ≡ steps) where
    pub count-done : length (partial_choices requests first (length items) steps g) ≡ i
    unfolding choices_from
    count-done =
        let none : steps - i ≡ 0 = omega arith in
        let is = rw none at m.drawn in
        omega (arith, length-drop i (partial_choices requests first (length items) steps g), ap length is, m.many)

    pub done : Shuffled requests first steps items g (Ok tt) now list
    done =
        let all = take_all i (partial_choices requests first (length items) steps g) (omega (arith, count-done)) in
        let draws : min steps (length (partial_choices requests first (length items) steps g) + 1) ≡ i = omega (arith, count-done) in
        record {
          answered = rw (count-done, eq-eqb i steps end) refl;
          reason = tt;
          made = rw all at m.made;
          left = rw draws m.reached;
        }
