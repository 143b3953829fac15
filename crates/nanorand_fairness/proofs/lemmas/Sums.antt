-- Sums over the numbers from `first` on.
use Rattle.std.proofs.Common.{◌≡◌, ◌≢◌, ℕ, zero, suc, ◌+◌, ◌*◌, ◌<◌, ◌≤◌, cond, nat_eq, refl, sym, ◌∙◌, ap, inl, inr, arith}
use Rattle.std.specs.List.{sum_by, range_with_len}
use Rattle.std.proofs.lemmas.Bool.{cases_eq, eq-eqb, ne_eqb}
use Rattle.std.proofs.lemmas.List.Sums.{sum_by-cons}

-- equal terms have equal sums
pub sum-same : (f g : ℕ → ℕ) (first n : ℕ) → ((k : ℕ) → first ≤ k → k < first + n → f k ≡ g k)
    → sum_by f (range_with_len first n) ≡ sum_by g (range_with_len first n)
sum-same f g first zero same = refl
sum-same f g first (suc n) same =
    let one = sum_by-cons f first (range_with_len (first + 1) n) in
    let other = sum_by-cons g first (range_with_len (first + 1) n) in
    let here = same first (omega arith) (omega arith) in
    let rest = sum-same f g (first + 1) n (λ k from to. same k (omega arith) (omega arith)) in
    omega (arith, one, other, here, rest)

-- the same, where all terms are equal
pub sum-terms : (f g : ℕ → ℕ) → ((k : ℕ) → f k ≡ g k) → (first n : ℕ)
    → sum_by f (range_with_len first n) ≡ sum_by g (range_with_len first n)
sum-terms f g same first n = sum-same f g first n (λ k from to. same k)

-- a common factor of all terms
pub sum-times : (f : ℕ → ℕ) (c first n : ℕ)
    → sum_by (λ k. f k * c) (range_with_len first n) ≡ sum_by f (range_with_len first n) * c
sum-times f c first zero = omega arith
sum-times f c first (suc n) =
    let one = sum_by-cons (λ k. f k * c) first (range_with_len (first + 1) n) in
    let other = ap (λ (s : ℕ). s * c) (sum_by-cons f first (range_with_len (first + 1) n)) in
    let rest = sum-times f c (first + 1) n in
    omega (arith, one, other, rest)

pub sum-plus : (f g : ℕ → ℕ) (first n : ℕ)
    → sum_by (λ k. f k + g k) (range_with_len first n) ≡ sum_by f (range_with_len first n) + sum_by g (range_with_len first n)
sum-plus f g first zero = refl
sum-plus f g first (suc n) =
    let both = sum_by-cons (λ k. f k + g k) first (range_with_len (first + 1) n) in
    let one = sum_by-cons f first (range_with_len (first + 1) n) in
    let other = sum_by-cons g first (range_with_len (first + 1) n) in
    let rest = sum-plus f g (first + 1) n in
    omega (arith, both, one, other, rest)

-- all terms are the same number
pub sum-constant : (c first n : ℕ) → sum_by (λ k. c) (range_with_len first n) ≡ n * c
sum-constant c first zero = omega arith
sum-constant c first (suc n) =
    let one = sum_by-cons (λ k. c) first (range_with_len (first + 1) n) in
    let rest = sum-constant c (first + 1) n in
    omega (arith, one, rest)

-- only the term at j is not zero
pub sum-only : (v : ℕ → ℕ) (j first n : ℕ) → first ≤ j → j < first + n
    → sum_by (λ k. cond (nat_eq j k) (v k) 0) (range_with_len first n) ≡ v j
sum-only v j first zero from to = absurd (omega arith)
sum-only v j first (suc n) from to =
    let one = sum_by-cons (λ k. cond (nat_eq j k) (v k) 0) first (range_with_len (first + 1) n) in
    elim (cases_eq j first) [
      | inl here ↦
          let nothing = sum-same (λ k. cond (nat_eq j k) (v k) 0) (λ k. 0) (first + 1) n
          (λ k after to'. rw (ne_eqb j k (λ same. absurd (omega arith))) refl) in
          let none = sum-constant 0 (first + 1) n in
          let head : ◌≡◌ {A = ℕ} (cond (nat_eq j first) (v first) 0) (v j) = rw (eq-eqb j first here, here) refl in
          omega (arith, one, nothing, none, head)
      | inr later ↦
          let head : ◌≡◌ {A = ℕ} (cond (nat_eq j first) (v first) 0) 0 = rw (ne_eqb j first later) refl in
          let rest = sum-only v j (first + 1) n (omega arith) (omega arith) in
          omega (arith, one, head, rest)
    ]

-- all terms except the one at j are equal
pub sum-apart : (f : ℕ → ℕ) (v c j first n : ℕ) → first ≤ j → j < first + n → f j ≡ v
    → ((k : ℕ) → first ≤ k → k < first + n → (k ≢ j) → f k ≡ c)
    → sum_by f (range_with_len first n) + c ≡ v + n * c
sum-apart f v c j first n from to at_j others =
    let terms = sum-same (λ k. f k + cond (nat_eq j k) c 0) (λ k. cond (nat_eq j k) v 0 + c) first n
    (λ k from' to'. elim (cases_eq j k) [
      | inl same ↦ rw (eq-eqb j k same) (let here : f k ≡ v = ap f (sym same) ∙ at_j in omega (arith, here))
      | inr other ↦ rw (ne_eqb j k other) (let here = others k from' to' (λ same. other (sym same)) in omega (arith, here))
    ]) in
    let one = sum-plus f (λ k. cond (nat_eq j k) c 0) first n in
    let other = sum-plus (λ k. cond (nat_eq j k) v 0) (λ k. c) first n in
    omega (arith, terms, one, other, sum-only (λ k. c) j first n from to, sum-only (λ k. v) j first n from to, sum-constant c first n)
