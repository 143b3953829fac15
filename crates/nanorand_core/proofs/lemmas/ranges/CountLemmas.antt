-- How many elements of a list pass a test.
use Rattle.std.proofs.Common.{◌≡◌, ℕ, zero, suc, ◌+◌, ◌≤◌, nat_lt, Bool, true, false, cond, List, [], ◌∷◌, zero-add, refl, sym, ◌∙◌, ap, inl, inr, arith}
use Rattle.std.specs.List.{count_by, range_with_len}
use Rattle.std.proofs.lemmas.Bool.{cases_lt, lt-ltb, le-ltb}
use Rattle.std.proofs.lemmas.List.Sums.{sum_by-cons}

module _ {X : Type 0} (f g : X → Bool) where
  pub count_by-same : ((x : X) → f x ≡ g x) → (xs : List X) → count_by f xs ≡ count_by g xs
  count_by-same same [] = refl
  count_by-same same (x ∷ xs) =
      sum_by-cons (λ y. cond (f y) 1 0) x xs
      ∙ ap (λ (b : Bool). cond b 1 0 + count_by f xs) (same x)
      ∙ ap (λ (n : ℕ). cond (g x) 1 0 + n) (count_by-same same xs)
      ∙ sym (sum_by-cons (λ y. cond (g y) 1 0) x xs)

  pub count_by-add : (h : X → Bool) → ((x : X) → cond (h x) 1 0 ≡ cond (f x) 1 0 + cond (g x) 1 0)
      → (xs : List X) → count_by h xs ≡ count_by f xs + count_by g xs
  count_by-add h both [] = refl
  count_by-add h both (x ∷ xs) =
      let whole = sum_by-cons (λ y. cond (h y) 1 0) x xs in
      let one = sum_by-cons (λ y. cond (f y) 1 0) x xs in
      let other = sum_by-cons (λ y. cond (g y) 1 0) x xs in
      let here = both x in
      let rest = count_by-add h both xs in
      omega (arith, whole, one, other, here, rest)

pub count_by-none : {X : Type 0} (f : X → Bool) → ((x : X) → f x ≡ false) → (xs : List X) → count_by f xs ≡ 0
count_by-none f none [] = refl
count_by-none f none (x ∷ xs) =
    sum_by-cons (λ y. cond (f y) 1 0) x xs
    ∙ ap (λ (b : Bool). cond b 1 0 + count_by f xs) (none x) ∙ zero-add (count_by f xs) ∙ count_by-none f none xs

-- one more number at the end
pub count_by-last : (p : ℕ → Bool) (a n : ℕ) → count_by p (range_with_len a (suc n)) ≡ count_by p (range_with_len a n) + cond (p (a + n)) 1 0
count_by-last p a zero =
    let same : a ≡ a + 0 = omega arith in
    sum_by-cons (λ k. cond (p k) 1 0) a [] ∙ ap (λ (k : ℕ). cond (p k) 1 0 + 0) same ∙ omega arith
count_by-last p a (suc n) =
    let place : a + 1 + n ≡ a + suc n = omega arith in
    let front = sum_by-cons (λ k. cond (p k) 1 0) a (range_with_len (a + 1) (suc n)) in
    let rest = count_by-last p (a + 1) n in
    let again = sum_by-cons (λ k. cond (p k) 1 0) a (range_with_len (a + 1) n) in
    let last : ◌≡◌ {A = ℕ} (cond (p (a + 1 + n)) 1 0) (cond (p (a + suc n)) 1 0) = ap (λ (k : ℕ). cond (p k) 1 0) place in
    omega (arith, front, rest, again, last)

-- of the numbers below n, exactly those below m pass
pub count_by-all_below : (m n : ℕ) → n ≤ m → count_by (λ k. nat_lt k m) (range_with_len 0 n) ≡ n
count_by-all_below m zero h = refl
count_by-all_below m (suc n) h =
    let last = count_by-last (λ k. nat_lt k m) 0 n in
    let here : nat_lt (0 + n) m ≡ true = lt-ltb (0 + n) m (omega arith) in
    let rest = count_by-all_below m n (omega arith) in
    omega (arith, rw here at last, rest)

pub count_by-below : (m n : ℕ) → m ≤ n → count_by (λ k. nat_lt k m) (range_with_len 0 n) ≡ m
count_by-below m zero h = omega arith
count_by-below m (suc n) h =
    elim (cases_lt n m) [
      | inl under ↦ let same : m ≡ suc n = omega arith in count_by-all_below m (suc n) (omega arith) ∙ sym same
      | inr over ↦
          let last = count_by-last (λ k. nat_lt k m) 0 n in
          let here : nat_lt (0 + n) m ≡ false = le-ltb (0 + n) m (omega arith) in
          let rest = count_by-below m n over in
          omega (arith, rw here at last, rest)
    ]
