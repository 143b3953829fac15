-- The number of numbers below n that pass a test.
use Rattle.std.proofs.Common.{◌≡◌, ◌≢◌, ℕ, zero, suc, ◌+◌, ◌-◌, ◌*◌, ◌<◌, ◌≤◌, Bool, true, false, cond, nat_eq, refl, sym, ◌∙◌, ap, inl, inr, arith}
use Rattle.std.specs.List.{sum_by, count_by, range_with_len}
use Rattle.std.proofs.lemmas.Bool.{cases_eq, eq-eqb, ne_eqb, eqb-true, false≢true}
use Rattle.std.proofs.lemmas.List.Sums.{sum_by-cons, sum_by-le-sum_by}
use Rattle.nanorand_fairness.proofs.lemmas.Sums.{sum-same, sum-plus, sum-times, sum-constant, sum-only}

-- if n terms have a sum below n, one of them is zero
sum-missing : (c : ℕ → ℕ) (first n : ℕ) → sum_by c (range_with_len first n) < n → (k : ℕ) × (k < first + n) × (c k ≡ 0)
sum-missing c first zero few = absurd (omega arith)
sum-missing c first (suc n) few =
    let one = sum_by-cons c first (range_with_len (first + 1) n) in
    elim (cases_eq (c first) 0) [
      | inl none ↦ (first, omega arith, none)
      | inr some ↦
          let later = sum-missing c (first + 1) n (omega (arith, one)) in
          (later.0, omega (arith, later.1), later.2)
    ]

-- if a count is zero, no number passes
count-zero : (p : ℕ → Bool) (first n : ℕ) → count_by p (range_with_len first n) ≡ 0 → (i : ℕ) → first ≤ i → i < first + n → p i ≡ false
count-zero p first zero none i from to = absurd (omega arith)
count-zero p first (suc n) none i from to =
    let one = sum_by-cons (λ i. cond (p i) 1 0) first (range_with_len (first + 1) n) in
    elim (cases_eq i first) [
      | inl here ↦ ap p here ∙ missed (p first) (omega (arith, one))
      | inr later ↦ count-zero p (first + 1) n (omega (arith, one)) i (omega arith) (omega arith)
    ]
  where
    missed : (b : Bool) → ◌≡◌ {A = ℕ} (cond b 1 0) 0 → b ≡ false
    missed true is = absurd (omega (arith, is))
    missed false is = refl

-- a table has the same sum by rows and by columns
sum-swap : (f : ℕ → ℕ → ℕ) (first n from m : ℕ)
    → sum_by (λ i. sum_by (λ j. f i j) (range_with_len from m)) (range_with_len first n)
    ≡ sum_by (λ j. sum_by (λ i. f i j) (range_with_len first n)) (range_with_len from m)
sum-swap f first zero from m = omega (arith, sum-constant 0 from m)
sum-swap f first (suc n) from m =
    let rest_of = λ (j : ℕ). sum_by (λ i. f i j) (range_with_len (first + 1) n) in
    let row = sum_by-cons (λ i. sum_by (λ j. f i j) (range_with_len from m)) first (range_with_len (first + 1) n) in
    let rest = sum-swap f (first + 1) n from m in
    let columns = sum-same (λ j. sum_by (λ i. f i j) (range_with_len first (suc n))) (λ j. f first j + rest_of j) from m
    (λ j _ _. sum_by-cons (λ i. f i j) first (range_with_len (first + 1) n)) in
    let parts = sum-plus (λ j. f first j) rest_of from m in
    omega (arith, row, rest, columns, parts)

-- a test that exactly one number passes
pub count-one : (p : ℕ → Bool) (k n : ℕ) → k < n → p k ≡ true → ((i : ℕ) → i < n → p i ≡ true → i ≡ k)
    → count_by p (range_with_len 0 n) ≡ 1
count-one p k n below hit only =
    sum-same (λ i. cond (p i) 1 0) (λ i. cond (nat_eq k i) 1 0) 0 n (λ i _ to. same i (omega arith)) ∙ sum-only (λ i. 1) k 0 n (omega arith) (omega arith)
  where
    missed : (i : ℕ) → i < n → k ≢ i → (b : Bool) → p i ≡ b → ◌≡◌ {A = ℕ} (cond (p i) 1 0) 0
    missed i to other true is = absurd (other (sym (only i to is)))
    missed i to other false is = ap (λ (b : Bool). cond b 1 0) is

    same : (i : ℕ) → i < n → ◌≡◌ {A = ℕ} (cond (p i) 1 0) (cond (nat_eq k i) 1 0)
    same i to =
        elim (cases_eq k i) [
          | inl here ↦ rw (eq-eqb k i here) (ap (λ (j : ℕ). cond (p j) 1 0) (sym here) ∙ ap (λ (b : Bool). cond b 1 0) hit)
          | inr other ↦ rw (ne_eqb k i other) (missed i to other (p i) refl)
        ]

-- a test that no number passes
pub count-none : (p : ℕ → Bool) (n : ℕ) → ((i : ℕ) → i < n → p i ≡ false) → count_by p (range_with_len 0 n) ≡ 0
count-none p n none =
    sum-same (λ i. cond (p i) 1 0) (λ i. 0) 0 n (λ i _ to. ap (λ (b : Bool). cond b 1 0) (none i (omega arith)))
    ∙ sum-constant 0 0 n ∙ omega arith

-- If each of the m numbers has one value, and the values of the indices that pass are these
-- numbers, each once, then m indices pass.
module _ (p : ℕ → Bool) (n m : ℕ) (value number : ℕ → ℕ)
    (found : (j : ℕ) → j < m → (i : ℕ) × (i < n) × (value i ≡ number j))
    (once : (i k : ℕ) → i < n → k < n → value i ≡ value k → i ≡ k)
    (apart : (j k : ℕ) → j < m → k < m → number j ≡ number k → j ≡ k)
    (passing : (i : ℕ) → i < n → p i ≡ true → (j : ℕ) × (j < m) × (number j ≡ value i))
    (pass : (i j : ℕ) → i < n → j < m → value i ≡ number j → p i ≡ true) where
  abbrev hits : ℕ → ℕ → Bool
  hits i j = nat_eq (value i) (number j)

  by_index : (i : ℕ) → i < n → (b : Bool) → p i ≡ b → count_by (λ j. hits i j) (range_with_len 0 m) ≡ cond (p i) 1 0
  by_index i to true is =
      let j = passing i to is in
      count-one (λ j. hits i j) j.0 m j.1 (eq-eqb (value i) (number j.0) (sym j.2))
      (λ k below same. apart k j.0 below j.1 (sym (eqb-true (value i) (number k) same) ∙ sym j.2))
      ∙ sym (ap (λ (b : Bool). cond b 1 0) is)
  by_index i to false is =
      count-none (λ j. hits i j) m
      (λ j below. ne_eqb (value i) (number j) (λ same. false≢true (sym is ∙ pass i j to below same)))
      ∙ sym (ap (λ (b : Bool). cond b 1 0) is)

  by_number : (j : ℕ) → j < m → count_by (λ i. hits i j) (range_with_len 0 n) ≡ 1
  by_number j below =
      let i = found j below in
      count-one (λ i. hits i j) i.0 n i.1 (eq-eqb (value i.0) (number j) i.2)
      (λ k to same. once k i.0 to i.1 (eqb-true (value k) (number j) same ∙ sym i.2))

  pub count-matched : count_by p (range_with_len 0 n) ≡ m
  count-matched =
      sum-same (λ i. cond (p i) 1 0) (λ i. count_by (λ j. hits i j) (range_with_len 0 m)) 0 n
      (λ i _ to. sym (by_index i (omega arith) (p i) refl))
      ∙ sum-swap (λ i j. cond (hits i j) 1 0) 0 n 0 m
      ∙ sum-same (λ j. count_by (λ i. hits i j) (range_with_len 0 n)) (λ j. 1) 0 m (λ j _ to. by_number j (omega arith))
      ∙ sum-constant 1 0 m ∙ omega arith

-- If each number below m is the value of `times` indices, then for each number that passes a test,
-- the values of `times` indices pass it.
module _ (q : ℕ → Bool) (n m times : ℕ) (value : ℕ → ℕ)
    (fits : (i : ℕ) → i < n → value i < m)
    (each : (s : ℕ) → s < m → count_by (λ i. nat_eq (value i) s) (range_with_len 0 n) ≡ times) where
  column : (s : ℕ) → s < m → (b : Bool)
      → sum_by (λ i. cond (nat_eq (value i) s) (cond b 1 0) 0) (range_with_len 0 n) ≡ cond b 1 0 * times
  column s below true = each s below ∙ omega arith
  column s below false =
      sum-same (λ i. cond (nat_eq (value i) s) 0 0) (λ i. 0) 0 n (λ i _ _. nothing (nat_eq (value i) s)) ∙ sum-constant 0 0 n ∙ omega arith
    where
      nothing : (b : Bool) → ◌≡◌ {A = ℕ} (cond b 0 0) 0
      nothing true = refl
      nothing false = refl

  pub count-values : count_by (λ i. q (value i)) (range_with_len 0 n) ≡ count_by q (range_with_len 0 m) * times
  count-values =
      sum-same (λ i. cond (q (value i)) 1 0) (λ i. sum_by (λ s. cond (nat_eq (value i) s) (cond (q s) 1 0) 0) (range_with_len 0 m)) 0 n
      (λ i _ to. sym (sum-only (λ s. cond (q s) 1 0) (value i) 0 m (omega arith) (omega (arith, fits i (omega arith)))))
      ∙ sum-swap (λ i s. cond (nat_eq (value i) s) (cond (q s) 1 0) 0) 0 n 0 m
      ∙ sum-same (λ s. sum_by (λ i. cond (nat_eq (value i) s) (cond (q s) 1 0) 0) (range_with_len 0 n)) (λ s. cond (q s) 1 0 * times) 0 m
      (λ s _ to. column s (omega arith) (q s))
      ∙ sum-times (λ s. cond (q s) 1 0) times 0 m

-- the same if each number is the value of one index
pub count-moved : (q : ℕ → Bool) (n m : ℕ) (value : ℕ → ℕ) → ((i : ℕ) → i < n → value i < m)
    → ((s : ℕ) → s < m → count_by (λ i. nat_eq (value i) s) (range_with_len 0 n) ≡ 1)
    → count_by (λ i. q (value i)) (range_with_len 0 n) ≡ count_by q (range_with_len 0 m)
count-moved q n m value fits each = count-values q n m 1 value fits each ∙ omega arith

-- If two of the numbers below n have the same value, and all values are below n, then some number
-- below n is not a value.
module _ (f : ℕ → ℕ) (n : ℕ) (fits : (s : ℕ) → s < n → f s < n) (j k : ℕ) (j_below : j < n) (k_below : k < n)
    (apart : j ≢ k) (same : f j ≡ f k) where
  abbrev times : ℕ → ℕ
  times w = count_by (λ s. nat_eq (f s) w) (range_with_len 0 n)

  all_times : sum_by times (range_with_len 0 n) ≡ n
  all_times =
      sum-swap (λ w s. cond (nat_eq (f s) w) 1 0) 0 n 0 n
      ∙ sum-same (λ s. sum_by (λ w. cond (nat_eq (f s) w) 1 0) (range_with_len 0 n)) (λ s. 1) 0 n
      (λ s _ to. sum-only (λ w. 1) (f s) 0 n (omega arith) (omega (arith, fits s (omega arith))))
      ∙ sum-constant 1 0 n ∙ omega arith

  both_pass : (s : ℕ) → cond (nat_eq j s) 1 0 + cond (nat_eq k s) 1 0 ≤ cond (nat_eq (f s) (f j)) 1 0
  both_pass s =
      elim (cases_eq j s) [
        | inl is_j ↦ rw (eq-eqb j s is_j, ne_eqb k s (λ is_k. apart (is_j ∙ sym is_k)), eq-eqb (f s) (f j) (ap f (sym is_j))) (omega arith)
        | inr not_j ↦ elim (cases_eq k s) [
          | inl is_k ↦ rw (ne_eqb j s not_j, eq-eqb k s is_k, eq-eqb (f s) (f j) (ap f (sym is_k) ∙ sym same)) (omega arith)
          | inr not_k ↦ rw (ne_eqb j s not_j, ne_eqb k s not_k) (omega arith)
        ]
      ]

  pub comes_twice : 2 ≤ times (f j)
  comes_twice =
      let less = sum_by-le-sum_by (λ s. cond (nat_eq j s) 1 0 + cond (nat_eq k s) 1 0) (λ s. cond (nat_eq (f s) (f j)) 1 0) (range_with_len 0 n) both_pass in
      let parts = sum-plus (λ s. cond (nat_eq j s) 1 0) (λ s. cond (nat_eq k s) 1 0) 0 n in
      let one = sum-only (λ s. 1) j 0 n (omega arith) (omega arith) in
      let other = sum-only (λ s. 1) k 0 n (omega arith) (omega arith) in
      omega (arith, less, parts, one, other)

  -- how often each number is a value, minus one at the value that both numbers have
  abbrev rest : ℕ → ℕ
  rest w = times w - cond (nat_eq (f j) w) 1 0

  split : (w : ℕ) → times w ≡ rest w + cond (nat_eq (f j) w) 1 0
  split w =
      elim (cases_eq (f j) w) [
        | inl here ↦ rw (eq-eqb (f j) w here) (omega (arith, comes_twice, ap times here))
        | inr other ↦ rw (ne_eqb (f j) w other) (omega arith)
      ]

  few : sum_by rest (range_with_len 0 n) < n
  few =
      let parts = sum-plus rest (λ w. cond (nat_eq (f j) w) 1 0) 0 n in
      let terms = sum-same times (λ w. rest w + cond (nat_eq (f j) w) 1 0) 0 n (λ w _ _. split w) in
      let one = sum-only (λ w. 1) (f j) 0 n (omega arith) (omega (arith, fits j j_below)) in
      omega (arith, parts, terms, one, all_times)

  not_at_all : (w : ℕ) → rest w ≡ 0 → times w ≡ 0
  not_at_all w none =
      elim (cases_eq (f j) w) [
        | inl here ↦ absurd (omega (arith, rw (eq-eqb (f j) w here) at none, comes_twice, ap times here))
        | inr other ↦ omega (arith, rw (ne_eqb (f j) w other) at none)
      ]

  pub some_value_missing : (w : ℕ) × (w < n) × ((s : ℕ) → s < n → f s ≢ w)
  some_value_missing =
      let found = sum-missing rest 0 n few in
      let w = found.0 in
      let none : times w ≡ 0 = not_at_all w found.2 in (
        w,
        omega (arith, found.1),
        λ s below is. false≢true (sym (count-zero (λ s. nat_eq (f s) w) 0 n none s (omega arith) (omega arith)) ∙ eq-eqb (f s) w is),
      )
