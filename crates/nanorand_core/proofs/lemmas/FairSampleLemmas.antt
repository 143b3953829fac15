-- The number of sequences of draws for which a number is in the sample.
use Rattle.std.proofs.Common.{◌≡◌, ℕ, zero, suc, ◌+◌, ◌-◌, ◌*◌, ◌<◌, ◌≤◌, ◌||◌, Bool, true, false, cond, List, [], ◌∷◌}
use Rattle.std.proofs.Common.{◌++◌, nat_eq, add-one, zero-add, refl, sym, ◌∙◌, ap, inl, inr, arith}
use Rattle.std.specs.List.{sum_by, count_by, range_with_len}
use Rattle.std.proofs.lemmas.Bool.{cases_Bool, cases_eq, cases_lt, false≢true, eq-eqb, eqb-true, eqb-false, ne_eqb, or_from, or_left, or_right}
use Rattle.std.proofs.lemmas.List.Folds.{list_any-append}
use Rattle.std.proofs.lemmas.List.Sums.{sum_by-cons}
use Rattle.nanorand_core.specs.samples.Samples.{NumbersAreFair, holds, joining, joined, rows_that}
use Rattle.nanorand_core.proofs.lemmas.ranges.CountLemmas.{count_by-add, count_by-last, count_by-none}
use Rattle.nanorand_core.proofs.lemmas.shuffles.CopyLemmas.{copies-inside}

-- sums over the draws of terms times K, which are A where a test passes, and B where it does not
module _ (f : ℕ → ℕ) (test : ℕ → Bool) (K A B : ℕ) where
  pub sum_split : (first n : ℕ)
      → ((d : ℕ) → first ≤ d → d < first + n → test d ≡ true → f d * K ≡ A)
      → ((d : ℕ) → first ≤ d → d < first + n → test d ≡ false → f d * K ≡ B)
      → sum_by f (range_with_len first n) * K + count_by test (range_with_len first n) * B
      ≡ count_by test (range_with_len first n) * A + n * B
  sum_split first zero hit miss = omega arith
  sum_split first (suc n) hit miss =
      let whole = ap (λ (s : ℕ). s * K) (sum_by-cons f first (range_with_len (first + 1) n)) in
      let counted = sum_by-cons (λ d. cond (test d) 1 0) first (range_with_len (first + 1) n) in
      let rest = sum_split (first + 1) n (λ d from to. hit d (omega arith) (omega arith)) (λ d from to. miss d (omega arith) (omega arith)) in
      elim (cases_Bool (test first)) [
        | inl passes ↦
            let here = hit first (omega arith) (omega arith) passes in
            let one = rw passes at counted in
            omega (arith, whole, here, rest, ap (λ (c : ℕ). c * A) one, ap (λ (c : ℕ). c * B) one)
        | inr fails ↦
            let here = miss first (omega arith) (omega arith) fails in
            let none = rw fails at counted in
            omega (arith, whole, here, rest, ap (λ (c : ℕ). c * A) none, ap (λ (c : ℕ). c * B) none)
      ]

-- the same sum if all terms are equal
pub sum_same : (f : ℕ → ℕ) (K w first n : ℕ) → ((d : ℕ) → first ≤ d → d < first + n → f d * K ≡ w) → sum_by f (range_with_len first n) * K ≡ n * w
sum_same f K w first n each =
    let none = count_by-none (λ (d : ℕ). false) (λ d. refl) (range_with_len first n) in
    let rows = sum_split f (λ (d : ℕ). false) K 0 w first n (λ d from to is. absurd (false≢true is)) (λ d from to is. each d from to) in
    omega (arith, rows, ap (λ (c : ℕ). c * w) none)

-- a count with one number more
pub count_by-more : (p : ℕ → Bool) (n : ℕ) → count_by p (range_with_len 0 (n + 1)) ≡ count_by p (range_with_len 0 n) + cond (p n) 1 0
count_by-more p n =
    ap (λ (m : ℕ). count_by p (range_with_len 0 m)) (add-one n) ∙ count_by-last p 0 n
    ∙ ap (λ (k : ℕ). count_by p (range_with_len 0 n) + cond (p k) 1 0) (zero-add n)

or_nothing : (b : Bool) → (b || false) ≡ b
or_nothing true = refl
or_nothing false = refl

-- what a sample holds after one more number is appended
module _ (x : ℕ) (sample : List ℕ) where
  holds-push : (y : ℕ) → holds y (sample ++ x ∷ []) ≡ (holds y sample || nat_eq x y)
  holds-push y =
      list_any-append (λ other. nat_eq other y) sample (x ∷ [])
      ∙ ap (λ (b : Bool). holds y sample || b) (or_nothing (nat_eq x y))

  pub holds-kept : (y : ℕ) → holds y sample ≡ true → holds y (sample ++ x ∷ []) ≡ true
  holds-kept y held = holds-push y ∙ or_left (holds y sample) (nat_eq x y) held

  pub holds-last : holds x (sample ++ x ∷ []) ≡ true
  holds-last = holds-push x ∙ or_right (holds x sample) (nat_eq x x) (eq-eqb x x refl)

  pub holds-still : (y : ℕ) → holds y sample ≡ false → (x ≡ y → ⊥) → holds y (sample ++ x ∷ []) ≡ false
  holds-still y absent other = holds-push y ∙ or_from (holds y sample) (nat_eq x y) absent (ne_eqb x y other)

  one_more : (y : ℕ) → holds x sample ≡ false → cond (holds y (sample ++ x ∷ [])) 1 0 ≡ cond (holds y sample) 1 0 + cond (nat_eq y x) 1 0
  one_more y new =
      elim (cases_eq y x) [
        | inl same ↦ rw (same, holds-last, new, eq-eqb x x refl) refl
        | inr other ↦ elim (cases_Bool (holds y sample)) [
          | inl held ↦ rw (holds-kept y held, held, ne_eqb y x other) refl
          | inr absent ↦ rw (holds-still y absent (λ same. other (sym same)), absent, ne_eqb y x other) refl
        ]
      ]

  pub count-push : (n : ℕ) → holds x sample ≡ false → x < n
      → count_by (λ y. holds y (sample ++ x ∷ [])) (range_with_len 0 n) ≡ count_by (λ y. holds y sample) (range_with_len 0 n) + 1
  count-push n new below =
      count_by-add (λ y. holds y sample) (λ y. nat_eq y x) (λ y. holds y (sample ++ x ∷ [])) (λ y. one_more y new) (range_with_len 0 n)
      ∙ ap (λ (k : ℕ). count_by (λ y. holds y sample) (range_with_len 0 n) + k) (copies-inside x 0 n (omega arith) (omega arith))

-- a sample of `size` different numbers below `last`
pub record Sampling (last size : ℕ) (sample : List ℕ) : Type 0 where
  pub below : (y : ℕ) → last ≤ y → holds y sample ≡ false
  pub counted : count_by (λ y. holds y sample) (range_with_len 0 last) ≡ size

module _ (last size : ℕ) (sample : List ℕ) (s : Sampling last size sample) where
  -- the numbers up to `last` that it holds are all of its numbers
  pub count-held : count_by (λ y. holds y sample) (range_with_len 0 (last + 1)) ≡ size
  count-held =
      count_by-more (λ y. holds y sample) last
      ∙ ap (λ (b : Bool). count_by (λ y. holds y sample) (range_with_len 0 last) + cond b 1 0) (s.below last (omega arith))
      ∙ omega (arith, s.counted)

  sampling_push : (x : ℕ) → x ≤ last → holds x sample ≡ false → Sampling (last + 1) (size + 1) (sample ++ x ∷ [])
  sampling_push x within new = record {
    below = λ y past. holds-still x sample y (s.below y (omega arith)) (λ same. absurd (omega arith));
    counted = count-push x sample (last + 1) new (omega arith) ∙ ap (λ (n : ℕ). n + 1) count-held;
  }

  pub sampling_more : (d : ℕ) → d ≤ last → Sampling (last + 1) (size + 1) (joined last d sample)
  sampling_more d within =
      elim (cases_Bool (holds d sample)) [
        | inl held ↦ rw held (sampling_push last (omega arith) (s.below last (omega arith)))
        | inr new ↦ rw new (sampling_push d within new)
      ]

pub sampling_none : (last : ℕ) → Sampling last 0 []
sampling_none last = record {
  below = λ y past. refl;
  counted = count_by-none (λ y. holds y []) (λ y. refl) (range_with_len 0 last);
}

-- the number of sequences of draws
abbrev pub total : ℕ → ℕ → ℕ
total last zero = 1
total last (suc left) = (last + 1) * total (last + 1) left

all_rows : (last left : ℕ) (sample : List ℕ) → rows_that last left sample (λ _. true) ≡ total last left
all_rows last zero sample = refl
all_rows last (suc left) sample =
    let rows = sum_same (λ d. rows_that (last + 1) left (joined last d sample) (λ _. true)) 1 (total (last + 1) left) 0 (last + 1)
    (λ d from to. let each = all_rows (last + 1) left (joined last d sample) in omega (arith, each)) in
    omega (arith, rows)

-- a number in the sample stays in it
kept : (last left p : ℕ) (sample : List ℕ) → holds p sample ≡ true → rows_that last left sample (holds p) ≡ total last left
kept last zero p sample held = rw held refl
kept last (suc left) p sample held =
    let rows = sum_same (λ d. rows_that (last + 1) left (joined last d sample) (holds p)) 1 (total (last + 1) left) 0 (last + 1)
    (λ d from to.
    let each = kept (last + 1) left p (joined last d sample) (holds-kept (joining last d sample) sample p held) in
    omega (arith, each)) in
    omega (arith, rows)

-- a number below `last` that is not in the sample joins only when it is drawn
absent : (last left p : ℕ) (sample : List ℕ) → p < last → holds p sample ≡ false
    → rows_that last left sample (holds p) * (last + left) ≡ left * total last left
absent last zero p sample below none = rw none (omega arith)
absent last (suc left) p sample below none =
    let K : ℕ = last + 1 + left in
    let T : ℕ = total (last + 1) left in
    let once = copies-inside p 0 (last + 1) (omega arith) (omega arith) in
    let rows = sum_split (λ d. rows_that (last + 1) left (joined last d sample) (holds p)) (λ d. nat_eq d p) K (K * T) (left * T) 0 (last + 1)
    (λ d from to is.
    let now = eqb-true d p is in
    let new : holds d sample ≡ false = rw now none in
    let each = kept (last + 1) left p (joined last d sample) (rw new (rw now (holds-last p sample))) in
    omega (arith, ap (λ (r : ℕ). r * K) each))
    (λ d from to is.
    let other = eqb-false d p is in
    absent (last + 1) left p (joined last d sample) (omega arith)
    (elim (cases_Bool (holds d sample)) [
      | inl held ↦ rw held (holds-still last sample p none (λ same. absurd (omega arith)))
      | inr new ↦ rw new (holds-still d sample p none other)
    ])) in
    omega (arith, rows, ap (λ (c : ℕ). c * (K * T)) once, ap (λ (c : ℕ). c * (left * T)) once)

-- a number still to come joins when it is the greatest, if it is drawn, or if a number is drawn
-- that the sample holds by then
coming : (last left p size : ℕ) (sample : List ℕ) → Sampling last size sample → last ≤ p → p < last + left
    → rows_that last left sample (holds p) * (last + left) ≡ (size + left) * total last left
coming last zero p size sample s from to = absurd (omega arith)
coming last (suc left) p size sample s from to =
    let K : ℕ = last + 1 + left in
    let T : ℕ = total (last + 1) left in
    elim (cases_eq last p) [
      | inl now ↦
          let none = s.below last (omega arith) in
          let many : count_by (λ d. holds d (sample ++ last ∷ [])) (range_with_len 0 (last + 1)) ≡ size + 1 =
          count-push last sample (last + 1) none (omega arith) ∙ ap (λ (n : ℕ). n + 1) (count-held last size sample s) in
          let rows = sum_split (λ d. rows_that (last + 1) left (joined last d sample) (holds last))
          (λ d. holds d (sample ++ last ∷ [])) K (K * T) (left * T) 0 (last + 1)
          (λ d from to is.
          let joins : holds last (joined last d sample) ≡ true =
          elim (cases_Bool (holds d sample)) [
            | inl held ↦ rw held (holds-last last sample)
            | inr new ↦ elim (cases_eq last d) [
              | inl same ↦ rw new (rw (← same) (holds-last last sample))
              | inr other ↦ absurd (false≢true (sym (holds-still last sample d new other) ∙ is))
            ]
          ] in
          let each = kept (last + 1) left last (joined last d sample) joins in
          omega (arith, ap (λ (r : ℕ). r * K) each))
          (λ d from to is.
          absent (last + 1) left last (joined last d sample) (omega arith)
          (elim (cases_Bool (holds d sample)) [
            | inl held ↦ absurd (false≢true (sym is ∙ holds-kept last sample d held))
            | inr new ↦ elim (cases_eq d last) [
              | inl same ↦ absurd (false≢true (sym is ∙ rw same (holds-last last sample)))
              | inr other ↦ rw new (holds-still d sample last none other)
            ]
          ])) in
          let whole : rows_that last (suc left) sample (holds last) * (last + suc left) ≡ (size + suc left) * total last (suc left) =
          omega (arith, rows, ap (λ (c : ℕ). c * (K * T)) many, ap (λ (c : ℕ). c * (left * T)) many) in
          rw (← now) whole
      | inr later ↦
          let rows = sum_same (λ d. rows_that (last + 1) left (joined last d sample) (holds p)) K ((size + 1 + left) * T) 0 (last + 1)
          (λ d first past.
          coming (last + 1) left p (size + 1) (joined last d sample) (sampling_more last size sample s d (omega arith)) (omega arith) (omega arith)) in
          omega (arith, rows)
    ]

pub numbers_are_fair : NumbersAreFair
numbers_are_fair size count p fits within =
    let last = count - size in
    let all : last + size ≡ count = omega arith in
    let share : rows_that last size [] (holds p) * (last + size) ≡ size * total last size =
    elim (cases_lt p last) [
      | inl early ↦ absent last size p [] early refl
      | inr late ↦ coming last size p 0 [] (sampling_none last) late (omega arith) ∙ ap (λ (n : ℕ). n * total last size) (zero-add size)
    ] in
    rw (all_rows last size []) (rw all at share)
