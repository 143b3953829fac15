-- The number of sequences of draws for which a set of numbers, given by a test, is the sample.
use Rattle.std.proofs.Common.{◌≡◌, ℕ, zero, suc, ◌+◌, ◌-◌, ◌*◌, ◌<◌, ◌≤◌, ◌&&◌, Bool, true, false, cond, not, List, []}
use Rattle.std.proofs.Common.{◌∷◌, ◌++◌, nat_eq, add-zero, add-one, refl, sym, ◌∙◌, ap, inl, inr, arith}
use Rattle.std.specs.List.{list_all, count_by, range_with_len}
use Rattle.std.proofs.Math.Nat.{eq_of_mul-eq-mul_left}
use Rattle.std.proofs.lemmas.Nat.{mul-le}
use Rattle.std.proofs.lemmas.Bool.{cases_Bool, false≢true, both_ways, and_parts, and_from, and_left, and_right, eqb-true}
use Rattle.std.proofs.lemmas.List.Folds.{list_all-append}
use Rattle.nanorand_core.specs.samples.Samples.{SetsAreFair, factorial, holds, joining, joined, rows_that}
use Rattle.nanorand_core.proofs.lemmas.ranges.CountLemmas.{count_by-add}
use Rattle.nanorand_core.proofs.lemmas.FairSampleLemmas.{Sampling, sampling_more, sampling_none, count-held, count_by-more, sum_split}

pub some_factorial : (n : ℕ) → 1 ≤ factorial n
some_factorial zero = omega arith
some_factorial (suc n) =
    let rest = some_factorial n in
    let more : 1 * 1 ≤ suc n * factorial n = mul-le 1 1 (suc n) (factorial n) (omega arith) rest in
    omega (arith, more)

-- with each further number a count grows by at most one
count-within : (p : ℕ → Bool) (m n : ℕ) → count_by p (range_with_len 0 (m + n)) ≤ count_by p (range_with_len 0 m) + n
count-within p m zero = let e = ap (λ (k : ℕ). count_by p (range_with_len 0 k)) (add-zero m) in omega (arith, e)
count-within p m (suc n) =
    let place : m + suc n ≡ m + n + 1 = omega arith in
    let e = ap (λ (k : ℕ). count_by p (range_with_len 0 k)) place ∙ count_by-more p (m + n) in
    let rest = count-within p m n in
    elim (cases_Bool (p (m + n))) [
      | inl passes ↦ let more = rw passes at e in omega (arith, more, rest)
      | inr fails ↦ let same = rw fails at e in omega (arith, same, rest)
    ]

module _ (test : ℕ → Bool) where
  all-push : (x : ℕ) (sample : List ℕ) → list_all test sample ≡ true → test x ≡ true → list_all test (sample ++ x ∷ []) ≡ true
  all-push x sample all passes =
      list_all-append test sample (x ∷ []) ∙ and_from (list_all test sample) (test x && true) all (and_from (test x) true passes refl)

  not_all-push : (x : ℕ) (sample : List ℕ) → test x ≡ false → list_all test (sample ++ x ∷ []) ≡ false
  not_all-push x sample fails =
      list_all-append test sample (x ∷ []) ∙ and_right (list_all test sample) (test x && true) (and_left (test x) true fails)

  held-passes : (d : ℕ) (sample : List ℕ) → list_all test sample ≡ true → holds d sample ≡ true → test d ≡ true
  held-passes d [] all held = absurd (false≢true held)
  held-passes d (x ∷ sample) all held =
      let parts = and_parts (test x) (list_all test sample) all in
      elim (cases_Bool (nat_eq x d)) [
        | inl same ↦ ap test (sym (eqb-true x d same)) ∙ parts.0
        | inr other ↦ held-passes d sample parts.1 (rw other at held)
      ]

  -- a sample that holds a number outside the set never becomes the set
  none : (last left : ℕ) (sample : List ℕ) → list_all test sample ≡ false → rows_that last left sample (list_all test) ≡ 0
  none last zero sample miss = rw miss refl
  none last (suc left) sample miss =
      let rows = sum_split (λ d. rows_that (last + 1) left (joined last d sample) (list_all test)) (λ (d : ℕ). false) 1 0 0 0 (last + 1)
      (λ d from to is. absurd (false≢true is))
      (λ d from to is.
      let out = list_all-append test sample (joining last d sample ∷ []) ∙ and_left (list_all test sample) (list_all test (joining last d sample ∷ [])) miss in
      let each = none (last + 1) left (joined last d sample) out in
      omega (arith, each)) in
      omega (arith, rows)

  -- how many numbers of the set are below n
  abbrev within : ℕ → ℕ
  within n = count_by test (range_with_len 0 n)

  -- The draws that keep the sample in the set. If `last` is in the set, these are all numbers of
  -- the set. Otherwise they are the numbers of the set that the sample does not hold.
  abbrev keeps : List ℕ → ℕ → Bool
  keeps sample d = test d && not (holds d sample)

  kept_or_held : (sample : List ℕ) → list_all test sample ≡ true → (d : ℕ) → cond (test d) 1 0 ≡ cond (keeps sample d) 1 0 + cond (holds d sample) 1 0
  kept_or_held sample all d =
      elim (cases_Bool (holds d sample)) [
        | inl held ↦ rw (held-passes d sample all held, held) refl
        | inr new ↦ elim (cases_Bool (test d)) [
          | inl passes ↦ rw (passes, new) refl
          | inr fails ↦ rw (fails, new) refl
        ]
      ]

  pub set_rows : (last left size : ℕ) (sample : List ℕ) → Sampling last size sample → list_all test sample ≡ true
      → within (last + left) ≡ size + left
      → rows_that last left sample (list_all test) * factorial (within last) ≡ factorial (within last - size) * factorial (size + left)
  set_rows last zero size sample s all whole =
      let n : ℕ = within last in
      let same : n ≡ size = ap within (sym (add-zero last)) ∙ whole ∙ omega arith in
      let none_left : n - size ≡ 0 = omega arith in
      let one = ap factorial none_left in
      let full = ap factorial same in
      let end = ap factorial (let e : size + 0 ≡ size = omega arith in e) in
      rw all (omega (arith, full, end, ap (λ (k : ℕ). k * factorial (size + 0)) one))
  set_rows last (suc left) size sample s all whole =
      let n : ℕ = within last in
      let F : ℕ = factorial (size + suc left) in
      let next : within (last + 1 + left) ≡ size + 1 + left = ap within (let e : last + 1 + left ≡ last + suc left = omega arith in e) ∙ whole ∙ omega arith in
      let end = ap factorial (let e : size + 1 + left ≡ size + suc left = omega arith in e) in
      let f : ℕ → ℕ = λ d. rows_that (last + 1) left (joined last d sample) (list_all test) in
      let A : ℕ = factorial (within (last + 1) - (size + 1)) * F in
      let goes : (d : ℕ) → d < last + 1 → test (joining last d sample) ≡ true → f d * factorial (within (last + 1)) ≡ A =
      λ d below passes.
      let rest = set_rows (last + 1) left (size + 1) (joined last d sample)
      (sampling_more last size sample s d (omega arith)) (all-push (joining last d sample) sample all passes)
      next in
      rest ∙ ap (λ (k : ℕ). factorial (within (last + 1) - (size + 1)) * k) end in
      let stops : (d : ℕ) → test (joining last d sample) ≡ false → f d * factorial (within (last + 1)) ≡ 0 =
      λ d fails.
      let rest = none (last + 1) left (joined last d sample) (not_all-push (joining last d sample) sample fails) in
      omega (arith, ap (λ (k : ℕ). k * factorial (within (last + 1))) rest) in
      elim (cases_Bool (test last)) [
        | inl in_set ↦
            let more : within (last + 1) ≡ n + 1 = rw in_set at (count_by-more test last) in
            let rows = sum_split f test (factorial (within (last + 1))) A 0 0 (last + 1)
            (λ d from to passes. goes d (omega arith) (elim (cases_Bool (holds d sample)) [ inl held ↦ rw held in_set | inr new ↦ rw new passes ]))
            (λ d from to fails. stops d (elim (cases_Bool (holds d sample)) [
              | inl held ↦ absurd (both_ways (test d) fails (held-passes d sample all held))
              | inr new ↦ rw new fails
            ])) in
            let grown : factorial (within (last + 1)) ≡ suc n * factorial n = ap factorial (more ∙ add-one n) in
            let fewer : within (last + 1) - (size + 1) ≡ n - size = omega (arith, more) in
            let same : A ≡ factorial (n - size) * F = ap (λ (k : ℕ). factorial k * F) fewer in
            let R : ℕ = rows_that last (suc left) sample (list_all test) in
            eq_of_mul-eq-mul_left (suc n) (omega arith) (R * factorial n) (factorial (n - size) * F)
            (omega (arith, rows, ap (λ (k : ℕ). R * k) grown, ap (λ (k : ℕ). k * A) more, ap (λ (k : ℕ). suc n * k) same))
        | inr out ↦
            let same : within (last + 1) ≡ n = rw out at (count_by-more test last) ∙ omega arith in
            let rows = sum_split f (keeps sample) (factorial (within (last + 1))) A 0 0 (last + 1)
            (λ d from to is.
            let parts = and_parts (test d) (not (holds d sample)) is in
            goes d (omega arith) (elim (cases_Bool (holds d sample)) [
              | inl held ↦ absurd (false≢true (rw held at parts.1))
              | inr new ↦ rw new parts.0
            ]))
            (λ d from to is.
            stops d (elim (cases_Bool (holds d sample)) [
              | inl held ↦ rw held out
              | inr new ↦ rw new (elim (cases_Bool (test d)) [
                | inl passes ↦ absurd (false≢true (sym is ∙ rw (passes, new) refl))
                | inr fails ↦ fails
              ])
            ])) in
            let parted = count_by-add (keeps sample) (λ d. holds d sample) test (kept_or_held sample all) (range_with_len 0 (last + 1)) in
            let held = count-held last size sample s in
            let room = count-within test (last + 1) left in
            let many : count_by (keeps sample) (range_with_len 0 (last + 1)) ≡ suc (n - (size + 1)) = omega (arith, parted, held, same, room, next) in
            let left_over : n - size ≡ suc (n - (size + 1)) = omega (arith, parted, held, same, room, next) in
            let grown : factorial (n - size) ≡ suc (n - (size + 1)) * factorial (n - (size + 1)) = ap factorial left_over in
            let fewer : A ≡ factorial (n - (size + 1)) * F = ap (λ (k : ℕ). factorial (k - (size + 1)) * F) same in
            let R : ℕ = rows_that last (suc left) sample (list_all test) in
            let kept_rows = ap (λ (k : ℕ). R * factorial k) same in
            omega (arith, rows, kept_rows, ap (λ (k : ℕ). k * A) many, ap (λ (k : ℕ). suc (n - (size + 1)) * k) fewer, ap (λ (k : ℕ). k * F) grown)
      ]

pub sets_are_fair : SetsAreFair
sets_are_fair size count test fits whole =
    let last = count - size in
    let n : ℕ = count_by test (range_with_len 0 last) in
    let all : last + size ≡ count = omega arith in
    let counted : count_by test (range_with_len 0 (last + size)) ≡ 0 + size = ap (λ (k : ℕ). count_by test (range_with_len 0 k)) all ∙ whole ∙ omega arith in
    let rows = set_rows test last size 0 [] (sampling_none last) refl counted in
    let same = ap factorial (let e : n - 0 ≡ n = omega arith in e) in
    let end = ap factorial (let e : 0 + size ≡ size = omega arith in e) in
    let R : ℕ = rows_that last size [] (list_all test) in
    eq_of_mul-eq-mul_left (factorial n) (some_factorial n) R (factorial size)
    (omega (arith, rows, ap (λ (k : ℕ). k * factorial (0 + size)) same, ap (λ (k : ℕ). factorial n * k) end))
