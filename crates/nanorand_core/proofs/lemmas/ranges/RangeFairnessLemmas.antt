-- A number that both bounds of a range admit occurs in the range once, and every index of a list is
-- given by the same number of words.
use Rattle.std.proofs.Common.{◌≡◌, ℕ, zero, suc, ◌+◌, ◌*◌, ◌^◌, ◌<◌, ◌≤◌, ◌&&◌, Bool, true, false, cond, List, [], ◌∷◌, Option}
use Rattle.std.proofs.Common.{Some, None, length, map, filter, nat_eq, slice_get, option_and_then, refl, sym, ◌∙◌, ap, inl, inr, arith}
use Rattle.std.specs.List.{count_by, range_with_len}
use Rattle.std.specs.Ordering.{int_eq}
use Rattle.std.specs.Option.{option_map_or}
use Rattle.std.specs.declared.ops.Bound.{Bound}
use Rattle.std.proofs.lemmas.Bool.{cases_Bool, cases_eq, cases_lt, ne_eqb, eq-eqb, and_from, false_from_ne_true}
use Rattle.std.proofs.lemmas.Bool.Decides.{Decides-int_eq}
use Rattle.std.proofs.lemmas.Int.{ints}
use Rattle.std.proofs.lemmas.List.FromFn.{length-map-range_with_len}
use Rattle.std.proofs.lemmas.List.Sums.{sum_by-cons, count_by-le-length, length-filter}
use Rattle.nanorand_core.specs.values.Runs.{named, quota, words_that}
use Rattle.nanorand_core.specs.values.Range.{range_within, is_above, is_below, Admits, signed_number}
use Rattle.nanorand_core.specs.values.Fairness.{passes, words_giving}
use Rattle.nanorand_core.proofs.lemmas.ranges.CountLemmas.{count_by-same}
use Rattle.nanorand_core.proofs.lemmas.ranges.FairnessLemmas.{shares}
use Rattle.nanorand_core.proofs.lemmas.ranges.EventLemmas.{event_words}

-- one more element at the front
count_by-cons : {T : Type 0} (test : T → Bool) (y : T) (ys : List T) (passed : Bool) → test y ≡ passed
    → count_by test (y ∷ ys) ≡ cond passed 1 0 + count_by test ys
count_by-cons test y ys passed is = sum_by-cons (λ x. cond (test x) 1 0) y ys ∙ ap (λ (b : Bool). cond b 1 0 + count_by test ys) is

-- `is_x` is the test for the number of rank x, and the filter keeps what passes `kept`
module _ {T : Type 0} (number : ℕ → T) (x : ℕ) (is_x kept : T → Bool) (same : (j : ℕ) → is_x (number j) ≡ nat_eq j x) where
  -- the number of another rank does not count
  count-other : (a : ℕ) (ys : List T) → ((a ≡ x) → ⊥) → count_by is_x (number a ∷ ys) ≡ count_by is_x ys
  count-other a ys differ = count_by-cons is_x (number a) ys false (same a ∙ ne_eqb a x differ) ∙ omega arith

  -- the numbers of later ranks do not count
  count-later : (a n : ℕ) → x < a → count_by is_x (filter kept (map number (range_with_len a n))) ≡ 0
  count-later a zero late = refl
  count-later a (suc n) late =
      let rest = count-later (a + 1) n (omega arith) in
      elim (cases_Bool (kept (number a))) [
        | inl here ↦ rw here (count-other a (filter kept (map number (range_with_len (a + 1) n))) (λ at. absurd (omega arith)) ∙ rest)
        | inr miss ↦ rw miss rest
      ]

  -- it occurs once among the kept numbers, if x is one of the ranks
  count-once : kept (number x) ≡ true → (a n : ℕ) → a ≤ x → x < a + n
      → count_by is_x (filter kept (map number (range_with_len a n))) ≡ 1
  count-once hit a zero low high = absurd (omega arith)
  count-once hit a (suc n) low high =
      let others = filter kept (map number (range_with_len (a + 1) n)) in
      elim (cases_lt a x) [
        | inl before ↦
            let rest = count-once hit (a + 1) n (omega arith) (omega arith) in
            elim (cases_Bool (kept (number a))) [
              | inl here ↦ rw here (count-other a others (λ at. absurd (omega arith)) ∙ rest)
              | inr miss ↦ rw miss rest
            ]
        | inr reached ↦
            let at : a ≡ x = omega arith in
            let here : kept (number a) ≡ true = ap (λ j. kept (number j)) at ∙ hit in
            rw here (count_by-cons is_x (number a) others true (same a ∙ eq-eqb a x at) ∙ omega (arith, count-later (a + 1) n (omega arith)))
      ]

-- two signed numbers are equal if and only if their ranks are
pub int_eq-signed : (bits j k : ℕ) → int_eq (signed_number bits j) (signed_number bits k) ≡ nat_eq j k
int_eq-signed bits j k =
    elim (cases_eq j k) [
      | inl same ↦ (Decides-int_eq (signed_number bits j) (signed_number bits k)).1 (ap (signed_number bits) same) ∙ sym (eq-eqb j k same)
      | inr differ ↦
          false_from_ne_true _ (λ equal.
          let together : signed_number bits j ≡ signed_number bits k = (Decides-int_eq (signed_number bits j) (signed_number bits k)).0 equal in
          absurd (differ (grind (arith, ints))))
          ∙ sym (ne_eqb j k differ)
    ]

-- the numbers from a + 1 on are those from a on, each with 1 added
count_by-next : (test : ℕ → Bool) (a n : ℕ) → count_by test (range_with_len (a + 1) n) ≡ count_by (λ k. test (suc k)) (range_with_len a n)
count_by-next test a zero = refl
count_by-next test a (suc n) =
    let next : test (a + 1) ≡ test (suc a) = ap test (omega arith) in
    count_by-cons test (a + 1) (range_with_len (a + 1 + 1) n) (test (suc a)) next
    ∙ ap (λ (m : ℕ). cond (test (suc a)) 1 0 + m) (count_by-next test (a + 1) n)
    ∙ sym (count_by-cons (λ k. test (suc k)) a (range_with_len (a + 1) n) (test (suc a)) refl)

-- whether the list has an element at the index, and it passes the test
abbrev passes_at : {T : Type 0} → (T → Bool) → List T → ℕ → Bool
passes_at test ys k = option_map_or test (slice_get ys k) false

module _ {T : Type 0} (test : T → Bool) where
  -- as many indices pass as elements
  count-places : (ys : List T) → count_by (passes_at test ys) (range_with_len 0 (length ys)) ≡ count_by test ys
  count-places [] = refl
  count-places (y ∷ ys) =
      count_by-cons (passes_at test (y ∷ ys)) 0 (range_with_len 1 (length ys)) (test y) refl
      ∙ ap (λ (m : ℕ). cond (test y) 1 0 + m) (count_by-next (passes_at test (y ∷ ys)) 0 (length ys) ∙ count-places ys)
      ∙ sym (count_by-cons test y ys (test y) refl)

  -- the named index passes if its element does
  place_passes : (ys : List T) (place : Option ℕ) → option_map_or test (option_and_then (slice_get ys) place) false ≡ passes (passes_at test ys) place
  place_passes ys (Some k) = refl
  place_passes ys None = refl

  -- the words of an event of a list
  pub list_words : (bits : ℕ) (numbers : List T) → 1 ≤ length numbers → length numbers ≤ 2 ^ bits
      → words_giving bits numbers test ≡ count_by test numbers * quota bits (length numbers)
  unfolding words_that
  list_words bits numbers some fits =
      let size = length numbers in
      count_by-same (λ word. option_map_or test (option_and_then (slice_get numbers) (named bits size word)) false)
      (λ word. passes (passes_at test numbers) (named bits size word)) (λ word. place_passes numbers (named bits size word)) (range_with_len 0 (2 ^ bits))
      ∙ event_words bits size (passes_at test numbers) (shares bits size some fits)
      ∙ ap (λ (m : ℕ). m * quota bits size) (count-places numbers)

module _ {T : Type 0} (le lt : T → T → Bool) (bits : ℕ) (number : ℕ → T) (low high : Bound T) where
  -- a range of a type of `bits` bits has at most 2^bits numbers
  range_fits : length (range_within le lt bits number low high) ≤ 2 ^ bits
  unfolding range_within
  range_fits =
      let kept : T → Bool = λ x. is_above le lt low x && is_below le lt high x in
      let all = map number (range_with_len 0 (2 ^ bits)) in
      omega (arith, length-filter kept all, count_by-le-length kept all, length-map-range_with_len number 0 (2 ^ bits))

  module _ (x : ℕ) (fits : x < 2 ^ bits) (admits : Admits le lt low high (number x))
      (is_x : T → Bool) (same : (j : ℕ) → is_x (number j) ≡ nat_eq j x) where
    -- the number of rank x occurs in the range once
    pub held_once : count_by is_x (range_within le lt bits number low high) ≡ 1
    unfolding range_within
    held_once =
        count-once number x is_x (λ y. is_above le lt low y && is_below le lt high y) same
        (and_from _ _ admits.0 admits.1) 0 (2 ^ bits) (omega arith) (omega arith)

    -- so it has the words of one index
    pub range_words : words_giving bits (range_within le lt bits number low high) is_x ≡ quota bits (length (range_within le lt bits number low high))
    range_words =
        let numbers = range_within le lt bits number low high in
        let once = held_once in
        list_words is_x bits numbers (omega (arith, once, count_by-le-length is_x numbers)) range_fits
        ∙ ap (λ (m : ℕ). m * quota bits (length numbers)) once ∙ omega arith
