-- If the same number of lists of numbers pass two tests, then the same number of lists of words
-- pass them.
use Rattle.std.proofs.Common.{◌≡◌, ℕ, suc, ◌*◌, ◌≤◌, Bool, true, List, [], ◌∷◌, ap, arith}
use Rattle.std.proofs.Math.Nat.{eq_of_mul-eq-mul_right, mul-le-mul_left}
use Rattle.nanorand_core.specs.values.Runs.{IsWordWidth}
use Rattle.nanorand_fairness.specs.InTurn.{AreSizes, RejectionsPreferNothing, number_lists_that, word_lists_that}
use Rattle.nanorand_fairness.proofs.lemmas.Sums.{sum-constant}

-- there is a list of numbers below the sizes
pub some-list : (bits : ℕ) (sizes : List ℕ) → AreSizes bits sizes → 1 ≤ number_lists_that sizes (λ numbers. true)
some-list bits [] fits = omega arith
some-list bits (size ∷ sizes) fits =
    let here = (fits 0 0 (omega arith)).0 in
    let rest = some-list bits sizes (λ k d low. fits (suc k) d (omega (arith, low))) in
    let whole = sum-constant (number_lists_that sizes (λ numbers. true)) 0 size in
    let more = mul-le-mul_left size rest in
    omega (arith, whole, more, here)

-- if a times the number of lists of numbers that pass one test is b times the number that pass the
-- other, the same holds for lists of words
pub share-lists : RejectionsPreferNothing → (bits n a b : ℕ) (sizes : List ℕ) (test other : List ℕ → Bool) → IsWordWidth bits → AreSizes bits sizes
    → a * number_lists_that sizes test ≡ b * number_lists_that sizes other
    → a * word_lists_that bits n sizes test ≡ b * word_lists_that bits n sizes other
share-lists rejections bits n a b sizes test other width fits same =
    let all = word_lists_that bits n sizes (λ numbers. true) in
    let one = ap (λ (m : ℕ). a * m) (rejections bits n sizes test width fits) in
    let both = ap (λ (m : ℕ). m * all) same in
    let another = ap (λ (m : ℕ). b * m) (rejections bits n sizes other width fits) in
    eq_of_mul-eq-mul_right (number_lists_that sizes (λ numbers. true)) (some-list bits sizes fits) _ _ (omega (arith, one, both, another))

pub even-lists : RejectionsPreferNothing → (bits n : ℕ) (sizes : List ℕ) (test other : List ℕ → Bool) → IsWordWidth bits → AreSizes bits sizes
    → number_lists_that sizes test ≡ number_lists_that sizes other
    → word_lists_that bits n sizes test ≡ word_lists_that bits n sizes other
even-lists rejections bits n sizes test other width fits same =
    let once = share-lists rejections bits n 1 1 sizes test other width fits (omega (arith, same)) in
    omega (arith, once)
