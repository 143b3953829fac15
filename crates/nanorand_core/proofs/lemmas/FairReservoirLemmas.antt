-- The number of sequences of draws for which an item is in the sample of a reservoir, or a set of
-- items is the sample.
use Rattle.std.proofs.Common.{◌≡◌, ℕ, zero, suc, ◌+◌, ◌-◌, ◌*◌, ◌<◌, ◌≤◌, ◌&&◌, Bool, true, false, cond, not, List, []}
use Rattle.std.proofs.Common.{◌∷◌, length, get_or, set, take, nat_eq, nat_lt, add-zero, add-one, zero-add, refl, sym, ◌∙◌, ap, inl, inr, arith}
use Rattle.std.specs.List.{list_all, count_by, range_with_len}
use Rattle.std.proofs.Math.Nat.{eq_of_mul-eq-mul_left}
use Rattle.std.proofs.lemmas.Bool.{cases_Bool, cases_eq, cases_lt, false≢true, and_parts, and_from, or_from, or_left, or_right, lt-ltb, le-ltb, eq-eqb, ne_eqb}
use Rattle.std.proofs.lemmas.List.{length-set, set_past, take_all}
use Rattle.std.proofs.lemmas.List.FromFn.{length-range_with_len}
use Rattle.std.proofs.lemmas.List.Sums.{sum_by-cons, sum_by-set, count_by_more_yes, count_by_more_no, count_by-le-length}
use Rattle.nanorand_core.specs.samples.Samples.{factorial, holds}
use Rattle.nanorand_core.specs.samples.Reservoir.{ItemsAreFair, ItemSetsAreFair, passes_that}
use Rattle.nanorand_core.proofs.lemmas.FairSampleLemmas.{total, count_by-more, sum_same, sum_split}
use Rattle.nanorand_core.proofs.lemmas.FairSetLemmas.{some_factorial}
use Rattle.nanorand_core.proofs.lemmas.ranges.CountLemmas.{count_by-below, count_by-last}
use Rattle.nanorand_core.proofs.lemmas.shuffles.CopyLemmas.{copies-inside, copies-outside}

-- how many numbers of a sample pass a test, when a draw replaces one of them
module _ (test : ℕ → Bool) (chosen : List ℕ) where
  -- there is such a slot, and its number passes
  abbrev hits : ℕ → Bool
  hits slot = nat_lt slot (length chosen) && test (get_or chosen slot 0)

  hits-taken : (n : ℕ) → count_by hits (range_with_len 0 n) ≡ count_by test (take n chosen)
  hits-taken zero = refl
  hits-taken (suc n) =
      let last : count_by hits (range_with_len 0 (suc n)) ≡ count_by hits (range_with_len 0 n) + cond (hits n) 1 0 =
      count_by-last hits 0 n ∙ ap (λ (k : ℕ). count_by hits (range_with_len 0 n) + cond (hits k) 1 0) (zero-add n) in
      let rest = hits-taken n in
      let place = ap (λ (k : ℕ). count_by test (take k chosen)) (add-one n) in
      elim (cases_lt n (length chosen)) [
        | inl inside ↦ elim (cases_Bool (test (get_or chosen n 0))) [
          | inl passes ↦
              let one = rw (lt-ltb n (length chosen) inside, passes) at last in
              omega (arith, one, rest, place, count_by_more_yes test chosen n 0 inside passes)
          | inr fails ↦
              let none = rw (lt-ltb n (length chosen) inside, fails) at last in
              omega (arith, none, rest, place, count_by_more_no test chosen n 0 inside fails)
        ]
        | inr past ↦
            let none = rw (le-ltb n (length chosen) past) at last in
            let all = ap (count_by test) (take_all n chosen past) in
            let whole = ap (count_by test) (take_all (suc n) chosen (omega arith)) in
            omega (arith, none, rest, all, whole)
      ]

  hit-count : (n : ℕ) → length chosen ≤ n → count_by hits (range_with_len 0 n) ≡ count_by test chosen
  hit-count n long = hits-taken n ∙ ap (count_by test) (take_all n chosen long)

  -- the number in a slot is replaced
  count-set : (slot i : ℕ) (b c : Bool) → slot < length chosen → test (get_or chosen slot 0) ≡ b → test i ≡ c
      → count_by test (set chosen slot i) + cond b 1 0 ≡ count_by test chosen + cond c 1 0
  count-set slot i b c inside old new =
      ap (λ (a : Bool). count_by test (set chosen slot i) + cond a 1 0) (sym old)
      ∙ sum_by-set (λ x. cond (test x) 1 0) chosen slot i 0 inside ∙ ap (λ (a : Bool). count_by test chosen + cond a 1 0) new

  -- no number is replaced
  count-past : (slot i : ℕ) → length chosen ≤ slot → count_by test (set chosen slot i) ≡ count_by test chosen
  count-past slot i past = ap (count_by test) (set_past chosen slot i past)

  hit-inside : (slot : ℕ) → hits slot ≡ true → (slot < length chosen) × (test (get_or chosen slot 0) ≡ true)
  hit-inside slot hit =
      elim (cases_lt slot (length chosen)) [
        | inl inside ↦ (inside, rw (lt-ltb slot (length chosen) inside) at hit)
        | inr past ↦ absurd (false≢true (rw (le-ltb slot (length chosen) past) at hit))
      ]

  -- a number that passes is replaced
  count-hit : (slot i : ℕ) (c : Bool) → hits slot ≡ true → test i ≡ c → count_by test (set chosen slot i) + 1 ≡ count_by test chosen + cond c 1 0
  count-hit slot i c hit new = let here = hit-inside slot hit in count-set slot i true c here.0 here.1 new

  -- a number that fails replaces another that fails, or none
  count-miss : (slot i : ℕ) → hits slot ≡ false → test i ≡ false → count_by test (set chosen slot i) ≡ count_by test chosen
  count-miss slot i miss new =
      elim (cases_lt slot (length chosen)) [
        | inl inside ↦
            let same = count-set slot i false false inside (rw (lt-ltb slot (length chosen) inside) at miss) new in
            omega (arith, same)
        | inr past ↦ count-past slot i past
      ]

  -- at most one more passes
  count-set-le : (slot i : ℕ) (c : Bool) → test i ≡ c → count_by test (set chosen slot i) ≤ count_by test chosen + cond c 1 0
  count-set-le slot i c new =
      elim (cases_lt slot (length chosen)) [
        | inl inside ↦ let same = count-set slot i (test (get_or chosen slot 0)) c inside refl new in omega (arith, same)
        | inr past ↦ let same = count-past slot i past in omega (arith, same)
      ]

module _ (test : ℕ → Bool) where
  count-cons : (x : ℕ) (chosen : List ℕ) (b : Bool) → test x ≡ b → count_by test (x ∷ chosen) ≡ cond b 1 0 + count_by test chosen
  count-cons x chosen b is = sum_by-cons (λ y. cond (test y) 1 0) x chosen ∙ ap (λ (a : Bool). cond a 1 0 + count_by test chosen) is

  -- all numbers pass if and only if the count of those that pass is the length
  all-count : (chosen : List ℕ) → list_all test chosen ≡ true → count_by test chosen ≡ length chosen
  all-count [] all = refl
  all-count (x ∷ chosen) all =
      let parts = and_parts (test x) (list_all test chosen) all in
      let rest = all-count chosen parts.1 in
      count-cons x chosen true parts.0 ∙ omega (arith, rest)

  count-all : (chosen : List ℕ) → count_by test chosen ≡ length chosen → list_all test chosen ≡ true
  count-all [] whole = refl
  count-all (x ∷ chosen) whole =
      elim (cases_Bool (test x)) [
        | inl passes ↦
            let one = count-cons x chosen true passes in
            and_from (test x) (list_all test chosen) passes (count-all chosen (omega (arith, one, whole)))
        | inr fails ↦
            let none = count-cons x chosen false fails in
            let room = count_by-le-length test chosen in
            absurd (omega (arith, none, whole, room))
      ]

-- those that pass and those that fail are all numbers
count-parts : (test : ℕ → Bool) (chosen : List ℕ) → count_by test chosen + count_by (λ x. not (test x)) chosen ≡ length chosen
count-parts test [] = refl
count-parts test (x ∷ chosen) =
    let rest = count-parts test chosen in
    elim (cases_Bool (test x)) [
      | inl passes ↦
          let one = count-cons test x chosen true passes in
          let none = count-cons (λ y. not (test y)) x chosen false (ap not passes) in
          omega (arith, one, none, rest)
      | inr fails ↦
          let none = count-cons test x chosen false fails in
          let one = count-cons (λ y. not (test y)) x chosen true (ap not fails) in
          omega (arith, one, none, rest)
    ]

not_true : (b : Bool) → not b ≡ true → b ≡ false
not_true true is = sym is
not_true false is = refl

not_false : (b : Bool) → not b ≡ false → b ≡ true
not_false true is = refl
not_false false is = sym is

-- a set of items, given by a test
module _ (test : ℕ → Bool) where
  -- how many items of the set are below n
  abbrev within : ℕ → ℕ
  within n = count_by test (range_with_len 0 n)

  within-more : (n : ℕ) (c : Bool) → test n ≡ c → within (n + 1) ≡ within n + cond c 1 0
  within-more n c is = count_by-more test n ∙ ap (λ (a : Bool). within n + cond a 1 0) is

  within-le : (n m : ℕ) → within m ≤ within (m + n)
  within-le zero m = let same = ap within (add-zero m) in omega (arith, same)
  within-le (suc n) m =
      let place = ap within (let e : m + suc n ≡ m + n + 1 = omega arith in e) in
      let more = within-more (m + n) (test (m + n)) refl in
      let rest = within-le n m in
      omega (arith, place, more, rest)

  -- if an item of the set has passed and is not in the sample, the sample cannot become the set
  missing : (left i : ℕ) (chosen : List ℕ) → within (i + left) ≡ length chosen → count_by test chosen < within i
      → passes_that i left chosen (list_all test) ≡ 0
  missing zero i chosen whole fewer =
      let now = ap within (add-zero i) in
      elim (cases_Bool (list_all test chosen)) [
        | inl all ↦ absurd (let full = all-count test chosen all in omega (arith, full, now, whole, fewer))
        | inr some ↦ rw some refl
      ]
  missing (suc left) i chosen whole fewer =
      let next = ap within (let e : i + 1 + left ≡ i + suc left = omega arith in e) in
      let more = within-more i (test i) refl in
      let rows = sum_same (λ slot. passes_that (i + 1) left (set chosen slot i) (list_all test)) 1 0 0 (i + 1)
      (λ slot from to.
      let long = length-set chosen slot i in
      let few = count-set-le test chosen slot i (test i) refl in
      let each = missing left (i + 1) (set chosen slot i) (omega (arith, next, whole, long)) (omega (arith, few, more, fewer)) in
      omega (arith, each)) in
      omega (arith, rows)

  -- all items of the set that have passed are in the sample, and `others` further items
  pub set_rows : (left i others : ℕ) (chosen : List ℕ) → length chosen ≤ i → within (i + left) ≡ length chosen → count_by test chosen ≡ within i
      → count_by test chosen + others ≡ length chosen
      → passes_that i left chosen (list_all test) * factorial (i - length chosen + others) ≡ factorial others * factorial (i + left - length chosen)
  set_rows zero i others chosen long whole all parts =
      let now = ap within (add-zero i) in
      let none : others ≡ 0 = omega (arith, now, whole, all, parts) in
      let full : count_by test chosen ≡ length chosen = omega (arith, now, whole, all) in
      rw (count-all test chosen full, none, add-zero (i - length chosen), add-zero i) (omega arith)
  set_rows (suc left) i others chosen long whole all parts =
      let size : ℕ = length chosen in
      let F : ℕ = factorial (i + suc left - size) in
      let next = ap within (let e : i + 1 + left ≡ i + suc left = omega arith in e) in
      let end : factorial (i + 1 + left - size) ≡ F = ap factorial (let e : i + 1 + left - size ≡ i + suc left - size = omega arith in e) in
      let f : ℕ → ℕ = λ slot. passes_that (i + 1) left (set chosen slot i) (list_all test) in
      let R : ℕ = passes_that i (suc left) chosen (list_all test) in
      let stops : (K slot : ℕ) → count_by test (set chosen slot i) < within (i + 1) → f slot * K ≡ 0 =
      λ K slot fewer.
      let same = length-set chosen slot i in
      let none = missing left (i + 1) (set chosen slot i) (omega (arith, next, whole, same)) fewer in
      omega (arith, ap (λ (k : ℕ). k * K) none) in
      let goes : (few slot : ℕ) → count_by test (set chosen slot i) ≡ within (i + 1) → count_by test (set chosen slot i) + few ≡ size
      → f slot * factorial (i + 1 - size + few) ≡ factorial few * F =
      λ few slot kept rest.
      let same = length-set chosen slot i in
      let rows = set_rows left (i + 1) few (set chosen slot i) (omega (arith, same)) (omega (arith, next, whole, same)) kept (omega (arith, same, rest)) in
      rw (same, end) at rows in
      elim (cases_Bool (test i)) [
        | inl in_set ↦
            let more = within-more i true in_set in
            let room = within-le left (i + 1) in
            let b : ℕ = others - 1 in
            let K : ℕ = factorial (i + 1 - size + b) in
            let A : ℕ = factorial b * F in
            let out : ℕ → Bool = λ x. not (test x) in
            let one_more : others ≡ suc b = omega (arith, more, room, next, whole, all, parts) in
            let rows = sum_split f (hits out chosen) K A 0 0 (i + 1)
            (λ slot from to hit.
            let here = hit-inside out chosen slot hit in
            let kept = count-set test chosen slot i false true here.0 (not_true (test (get_or chosen slot 0)) here.1) in_set in
            goes b slot (omega (arith, kept, more, all)) (omega (arith, kept, parts, one_more)))
            (λ slot from to miss.
            stops K slot (elim (cases_lt slot size) [
              | inl inside ↦
                  let old = not_false (test (get_or chosen slot 0)) (rw (lt-ltb slot size inside) at miss) in
                  let same = count-set test chosen slot i true true inside old in_set in
                  omega (arith, same, more, all)
              | inr past ↦ let same = count-past test chosen slot i past in omega (arith, same, more, all)
            ])) in
            let counted = hit-count out chosen (i + 1) (omega arith) in
            let split = count-parts test chosen in
            let many : count_by (hits out chosen) (range_with_len 0 (i + 1)) ≡ suc b = omega (arith, counted, split, parts, one_more) in
            let grown : factorial others ≡ suc b * factorial b = ap factorial one_more in
            let place : K ≡ factorial (i - size + others) = ap factorial (let e : i + 1 - size + b ≡ i - size + others = omega (arith, one_more, long) in e) in
            omega (arith, rows, ap (λ (k : ℕ). R * k) place, ap (λ (k : ℕ). k * A) many, ap (λ (k : ℕ). k * F) grown)
        | inr out ↦
            let more = within-more i false out in
            let m : ℕ = i - size + others in
            let K : ℕ = factorial (i + 1 - size + others) in
            let B : ℕ = factorial others * F in
            let rows = sum_split f (hits test chosen) K 0 B 0 (i + 1)
            (λ slot from to hit. let fewer = count-hit test chosen slot i false hit out in stops K slot (omega (arith, fewer, more, all)))
            (λ slot from to miss.
            let same = count-miss test chosen slot i miss out in
            goes others slot (omega (arith, same, more, all)) (omega (arith, same, parts))) in
            let counted = hit-count test chosen (i + 1) (omega arith) in
            let left_over : i + 1 ≡ count_by (hits test chosen) (range_with_len 0 (i + 1)) + suc m = omega (arith, counted, parts, long) in
            let grown : K ≡ suc m * factorial m = ap factorial (let e : i + 1 - size + others ≡ suc m = omega (arith, long) in e) in
            eq_of_mul-eq-mul_left (suc m) (omega arith) (R * factorial m) B
            (omega (arith, rows, ap (λ (k : ℕ). R * k) grown, ap (λ (k : ℕ). k * B) left_over))
      ]

pub sets_are_fair : ItemSetsAreFair
sets_are_fair size count test fits whole =
    let left = count - size in
    let chosen = range_with_len 0 size in
    let long = length-range_with_len 0 size in
    let room = count_by-le-length test chosen in
    let others : ℕ = size - count_by test chosen in
    let all : size + left ≡ count = omega arith in
    let counted = ap (within test) all ∙ whole in
    let rows = set_rows test left size others chosen (omega (arith, long)) (counted ∙ sym long) refl (omega (arith, long, room)) in
    let front = ap factorial (let e : size - length chosen + others ≡ others = omega (arith, long) in e) in
    let end = ap factorial (let e : size + left - length chosen ≡ count - size = omega (arith, long) in e) in
    let R : ℕ = passes_that size left chosen (list_all test) in
    eq_of_mul-eq-mul_left (factorial others) (some_factorial others) R (factorial (count - size))
    (omega (arith, rows, ap (λ (k : ℕ). R * k) front, ap (λ (k : ℕ). factorial others * k) end))

below_length : (slot : ℕ) (chosen : List ℕ) → nat_lt slot (length chosen) ≡ true → slot < length chosen
below_length slot chosen is =
    elim (cases_lt slot (length chosen)) [
      | inl inside ↦ inside
      | inr past ↦ absurd (false≢true (sym (le-ltb slot (length chosen) past) ∙ is))
    ]

past_length : (slot : ℕ) (chosen : List ℕ) → nat_lt slot (length chosen) ≡ false → length chosen ≤ slot
past_length slot chosen is =
    elim (cases_lt slot (length chosen)) [
      | inl inside ↦ absurd (false≢true (sym is ∙ lt-ltb slot (length chosen) inside))
      | inr past ↦ past
    ]

-- the number of sequences of draws
all-passes : (left i : ℕ) (chosen : List ℕ) → passes_that i left chosen (λ _. true) ≡ total i left
all-passes zero i chosen = refl
all-passes (suc left) i chosen =
    let rows = sum_same (λ slot. passes_that (i + 1) left (set chosen slot i) (λ _. true)) 1 (total (i + 1) left) 0 (i + 1)
    (λ slot from to. let each = all-passes left (i + 1) (set chosen slot i) in omega (arith, each)) in
    omega (arith, rows)

-- an item p
module _ (p : ℕ) where
  abbrev is_p : ℕ → Bool
  is_p x = nat_eq x p

  -- an item is in the sample if and only if it is counted there
  none-held : (chosen : List ℕ) → count_by is_p chosen ≡ 0 → holds p chosen ≡ false
  none-held [] none = refl
  none-held (x ∷ chosen) none =
      elim (cases_Bool (is_p x)) [
        | inl here ↦ absurd (let one = count-cons is_p x chosen true here in omega (arith, one, none))
        | inr there ↦
            let rest = count-cons is_p x chosen false there in
            or_from (is_p x) (holds p chosen) there (none-held chosen (omega (arith, rest, none)))
      ]

  some-held : (chosen : List ℕ) → count_by is_p chosen ≡ 1 → holds p chosen ≡ true
  some-held [] once = absurd (omega arith)
  some-held (x ∷ chosen) once =
      elim (cases_Bool (is_p x)) [
        | inl here ↦ or_left (is_p x) (holds p chosen) here
        | inr there ↦
            let rest = count-cons is_p x chosen false there in
            or_right (is_p x) (holds p chosen) (some-held chosen (omega (arith, rest, once)))
      ]

  no-copy : (chosen : List ℕ) (slot : ℕ) → count_by is_p chosen ≡ 0 → slot < length chosen → is_p (get_or chosen slot 0) ≡ false
  no-copy chosen slot none inside =
      elim (cases_Bool (is_p (get_or chosen slot 0))) [
        | inl here ↦
            let fewer = count-set is_p chosen slot (p + 1) true false inside here (ne_eqb (p + 1) p (λ same. absurd (omega arith))) in
            absurd (omega (arith, fewer, none))
        | inr there ↦ there
      ]

  -- an item that has passed and is not in the sample never returns
  lost : (left i : ℕ) (chosen : List ℕ) → p < i → count_by is_p chosen ≡ 0 → passes_that i left chosen (holds p) ≡ 0
  lost zero i chosen past none = rw (none-held chosen none) refl
  lost (suc left) i chosen past none =
      let rows = sum_same (λ slot. passes_that (i + 1) left (set chosen slot i) (holds p)) 1 0 0 (i + 1)
      (λ slot from to.
      let few = count-set-le is_p chosen slot i false (ne_eqb i p (λ same. absurd (omega arith))) in
      let each = lost left (i + 1) (set chosen slot i) (omega arith) (omega (arith, few, none)) in
      omega (arith, each)) in
      omega (arith, rows)

  -- an item in the sample is kept in i of i + left of the sequences
  kept : (left i : ℕ) (chosen : List ℕ) → length chosen ≤ i → p < i → count_by is_p chosen ≡ 1
      → passes_that i left chosen (holds p) * (i + left) ≡ i * total i left
  kept zero i chosen long past once = rw (some-held chosen once) (omega arith)
  kept (suc left) i chosen long past once =
      let other = ne_eqb i p (λ same. absurd (omega arith)) in
      let B : ℕ = (i + 1) * total (i + 1) left in
      let rows = sum_split (λ slot. passes_that (i + 1) left (set chosen slot i) (holds p)) (hits is_p chosen) (i + 1 + left) 0 B 0 (i + 1)
      (λ slot from to hit.
      let fewer = count-hit is_p chosen slot i false hit other in
      let each = lost left (i + 1) (set chosen slot i) (omega arith) (omega (arith, fewer, once)) in
      omega (arith, ap (λ (k : ℕ). k * (i + 1 + left)) each))
      (λ slot from to miss.
      let same = length-set chosen slot i in
      kept left (i + 1) (set chosen slot i) (omega (arith, same)) (omega arith) (count-miss is_p chosen slot i miss other ∙ once)) in
      let counted = hit-count is_p chosen (i + 1) (omega arith) ∙ once in
      omega (arith, rows, ap (λ (k : ℕ). k * B) counted)

  -- an item still to come is kept in as many of the sequences as the sample has slots
  coming : (left i : ℕ) (chosen : List ℕ) → length chosen ≤ i → i ≤ p → p < i + left → count_by is_p chosen ≡ 0
      → passes_that i left chosen (holds p) * (i + left) ≡ length chosen * total i left
  coming zero i chosen long from to none = absurd (omega arith)
  coming (suc left) i chosen long from to none =
      let A : ℕ = (i + 1) * total (i + 1) left in
      elim (cases_eq i p) [
        | inl now ↦
            let rows = sum_split (λ slot. passes_that (i + 1) left (set chosen slot i) (holds p)) (λ slot. nat_lt slot (length chosen)) (i + 1 + left) A 0 0 (i + 1)
            (λ slot first last there.
            let same = length-set chosen slot i in
            let inside = below_length slot chosen there in
            let once = count-set is_p chosen slot i false true inside (no-copy chosen slot none inside) (eq-eqb i p now) in
            kept left (i + 1) (set chosen slot i) (omega (arith, same)) (omega arith) (omega (arith, once, none)))
            (λ slot first last past.
            let still = count-past is_p chosen slot i (past_length slot chosen past) ∙ none in
            let gone = lost left (i + 1) (set chosen slot i) (omega arith) still in
            omega (arith, ap (λ (k : ℕ). k * (i + 1 + left)) gone)) in
            let counted = count_by-below (length chosen) (i + 1) (omega arith) in
            omega (arith, rows, ap (λ (k : ℕ). k * A) counted)
        | inr later ↦
            let rows = sum_same (λ slot. passes_that (i + 1) left (set chosen slot i) (holds p)) (i + 1 + left) (length chosen * total (i + 1) left) 0 (i + 1)
            (λ slot first last.
            let same = length-set chosen slot i in
            let few = count-set-le is_p chosen slot i false (ne_eqb i p later) in
            coming left (i + 1) (set chosen slot i) (omega (arith, same)) (omega arith) (omega arith) (omega (arith, few, none))
            ∙ ap (λ (n : ℕ). n * total (i + 1) left) same) in
            omega (arith, rows)
      ]

pub items_are_fair : ItemsAreFair
items_are_fair size count p fits low =
    let left = count - size in
    let chosen = range_with_len 0 size in
    let long = length-range_with_len 0 size in
    let all : size + left ≡ count = omega arith in
    let share : passes_that size left chosen (holds p) * (size + left) ≡ size * total size left =
    elim (cases_lt p size) [
      | inl early ↦ kept p left size chosen (omega (arith, long)) early (copies-inside p 0 size (omega arith) (omega arith))
      | inr late ↦
          coming p left size chosen (omega (arith, long)) late (omega arith) (copies-outside p 0 size (inr (omega arith)))
          ∙ ap (λ (n : ℕ). n * total size left) long
    ] in
    rw (all-passes left size chosen) (rw all at share)
