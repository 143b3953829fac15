-- A shuffle that is under way: the draws that are left complete the whole shuffle.
use Rattle.std.proofs.Common.{◌≡◌, ℕ, suc, ◌+◌, ◌-◌, ◌*◌, ◌<◌, ◌≤◌, List, length, min, swap, IsPermutation, Result, Ok, Err, refl, sym, ◌∙◌, ap, arith}
use Rattle.std.proofs.lemmas.Bool.{eq-eqb, ne_eqb}
use Rattle.std.proofs.lemmas.List.Sorted.{IsPermutation-refl, IsPermutation-swap, IsPermutation-trans, length_permutation}
use Rattle.std.specs.Fn.{iterate}
use Rattle.nanorand_core.specs.support.IterateLemmas.{iterate-add}
use Rattle.nanorand_core.specs.generators.Blocks.{Requests}
use Rattle.nanorand_core.specs.values.Draws.{after_word, after_words}
use Rattle.nanorand_core.specs.shuffles.Shuffles.{arranged_from, arranged, from_itself, partner_drawn, choices_from, state_after_places}
use Rattle.nanorand_core.specs.shuffles.Shuffles.{shuffle_choices, shuffle_answer, shuffle_state}
use Rattle.nanorand_core.specs.declared.values.range.RangeError.{RangeError}
use Rattle.nanorand_core.specs.declared.values.range.RangeError.TheVariants.{Exhausted}

-- The state is the one after at most `most` words.
abbrev pub Drew : {G : Type 0} → Requests G → ℕ → G → G → Type 0
Drew requests most g now = (n : ℕ) × (n ≤ most) × (now ≡ after_words requests 64 n g)

module _ {G T : Type 0} (requests : Requests G) (n : ℕ) (all : List T) (g : G) where
  -- The draws for `left` indices, from i on, are left. They complete the choices, the items and the
  -- state of the whole shuffle.
  pub record UnderWay (i left : ℕ) (now : G) (list : List T) : Type 0 where
    pub chosen : i + length (choices_from requests from_itself n i left now) ≡ length (shuffle_choices requests from_itself n g)
    pub made : arranged_from i (choices_from requests from_itself n i left now) list ≡ arranged (shuffle_choices requests from_itself n g) all
    pub reached : state_after_places requests from_itself n i (min left (length (choices_from requests from_itself n i left now) + 1)) now
        ≡ shuffle_state requests from_itself n g
    pub drew : Drew requests (128 * i) g now
    pub shuffled : IsPermutation all list

  pub under_way-start : UnderWay 0 n g all
  under_way-start = record {
    chosen = omega arith;
    made = refl;
    reached = refl;
    drew = (0, omega arith, refl);
    shuffled = IsPermutation-refl all;
  }

  -- The outcome of the whole shuffle.
  pub record Ended (answer : Result (Unit {0}) RangeError) (now : G) (list : List T) : Type 0 where
    pub answered : answer ≡ shuffle_answer requests from_itself n g
    pub made : list ≡ arranged (shuffle_choices requests from_itself n g) all
    pub left : now ≡ shuffle_state requests from_itself n g
    pub drew : Drew requests (128 * n) g now
    pub shuffled : IsPermutation all list

module _ {G T : Type 0} {requests : Requests G} {n : ℕ} {all : List T} {g : G} {i left : ℕ} {now : G} {list : List T}
    (m : UnderWay requests n all g i (suc left) now list) where
  one-more : Drew requests 128 now (partner_drawn requests from_itself n i now).1 → Drew requests (128 * (i + 1)) g (partner_drawn requests from_itself n i now).1
  one-more one =
      let so_far = m.drew in (
        so_far.0 + one.0,
        omega (arith, so_far.1, one.1),
        one.2 ∙ ap (iterate (after_word requests 64) one.0) so_far.2 ∙ sym (iterate-add (after_word requests 64) so_far.0 one.0 g),
      )

  module _ {j : ℕ} (drawn : (partner_drawn requests from_itself n i now).0 ≡ Ok j) where
    chosen-more : i + suc (length (choices_from requests from_itself n (i + 1) left (partner_drawn requests from_itself n i now).1))
        ≡ length (shuffle_choices requests from_itself n g)
    unfolding choices_from
    chosen-more = rw drawn at m.chosen

    made-more : arranged_from (i + 1) (choices_from requests from_itself n (i + 1) left (partner_drawn requests from_itself n i now).1) (swap list i j)
        ≡ arranged (shuffle_choices requests from_itself n g) all
    unfolding choices_from
    made-more = rw drawn at m.made

    reached-more : state_after_places requests from_itself n i
        (min (suc left) (suc (length (choices_from requests from_itself n (i + 1) left (partner_drawn requests from_itself n i now).1)) + 1)) now
        ≡ shuffle_state requests from_itself n g
    unfolding choices_from
    reached-more = rw drawn at m.reached

    pub under_way-step : Drew requests 128 now (partner_drawn requests from_itself n i now).1 → i < length all → j < length all
        → UnderWay requests n all g (i + 1) left (partner_drawn requests from_itself n i now).1 (swap list i j)
    unfolding state_after_places
    under_way-step one low far =
        let size = length_permutation all list m.shuffled in
        let rest : ℕ = length (choices_from requests from_itself n (i + 1) left (partner_drawn requests from_itself n i now).1) in
        let fewer : min (suc left) (suc rest + 1) ≡ suc (min left (rest + 1)) = omega arith in
        record {
          chosen = omega (arith, chosen-more);
          made = made-more;
          reached = rw fewer at reached-more;
          drew = one-more one;
          shuffled = IsPermutation-trans all list (swap list i j) m.shuffled
              (IsPermutation-swap list (swap list i j) i j (omega (arith, size)) (omega (arith, size)) refl);
        }

  -- A draw that was exhausted ends the shuffle.
  module _ (drawn : (partner_drawn requests from_itself n i now).0 ≡ Err Exhausted) where
    chosen-all : i + 0 ≡ length (shuffle_choices requests from_itself n g)
    unfolding choices_from
    chosen-all = rw drawn at m.chosen

    made-all : list ≡ arranged (shuffle_choices requests from_itself n g) all
    unfolding choices_from
    made-all = rw drawn at m.made

    reached-all : state_after_places requests from_itself n i (min (suc left) (0 + 1)) now ≡ shuffle_state requests from_itself n g
    unfolding choices_from
    reached-all = rw drawn at m.reached

    pub ended-early : Drew requests 128 now (partner_drawn requests from_itself n i now).1 → i < n
        → Ended requests n all g (Err Exhausted) (partner_drawn requests from_itself n i now).1 list
    unfolding state_after_places
    ended-early one low =
        let chosen : length (shuffle_choices requests from_itself n g) ≡ i = omega (arith, chosen-all) in
        let single : min (suc left) (0 + 1) ≡ 1 = omega arith in
        let words = one-more one in
        record {
          answered = rw (chosen, ne_eqb i n (λ same. omega arith)) refl;
          made = made-all;
          left = rw single at reached-all;
          drew = (words.0, omega (arith, words.1), words.2);
          shuffled = m.shuffled;
        }

-- No draw is left.
module _ {G T : Type 0} {requests : Requests G} {n : ℕ} {all : List T} {g : G} {now : G} {list : List T} (m : UnderWay requests n all g n 0 now list) where
  pub ended : Ended requests n all g (Ok tt) now list
  unfolding choices_from state_after_places
  ended =
      let chosen : length (shuffle_choices requests from_itself n g) ≡ n = omega (arith, m.chosen) in
      record {
        answered = rw (chosen, eq-eqb n n refl) refl;
        made = m.made;
        left = m.reached;
        drew = m.drew;
        shuffled = m.shuffled;
      }

-- The outcome, with the number of items written as in the contract.
pub ended-whole : {G T : Type 0} {requests : Requests G} {n : ℕ} {all : List T} {g : G} {answer : Result (Unit {0}) RangeError} {now : G} {list : List T}
    → length all ≡ n → Ended requests n all g answer now list → Ended requests (length all) all g answer now list
ended-whole size end = rw size end

-- All indices were drawn.
pub ended-at : {G T : Type 0} {requests : Requests G} {n i : ℕ} {all : List T} {g : G} {now : G} {list : List T}
    → UnderWay requests n all g i (n - i) now list → i ≡ n → length all ≡ n → Ended requests (length all) all g (Ok tt) now list
ended-at {n = n} m last size =
    let none : n - n ≡ 0 = omega arith in
    let at_end = rw last at m in
    ended-whole size (ended (rw none at at_end))
