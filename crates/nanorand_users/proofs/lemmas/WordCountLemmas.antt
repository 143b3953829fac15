-- The number of words that several draws take.
use Rattle.std.proofs.Common.{◌≡◌, ℕ, zero, suc, ◌+◌, ◌*◌, ◌≤◌, ◌∙◌, ap, arith}
use Rattle.std.specs.Fn.{iterate}

iterate-add : {G : Type 0} (step : G → G) (m n : ℕ) (g : G) → iterate step n (iterate step m g) ≡ iterate step (m + n) g
iterate-add step zero n g = ap (λ (k : ℕ). iterate step k g) (let e : n ≡ 0 + n = omega arith in e)
iterate-add step (suc m) n g =
    iterate-add step m n (step g) ∙ ap (λ (k : ℕ). iterate step k g) (let e : suc (m + n) ≡ suc m + n = omega arith in e)

-- After one more draw.
pub words_more : {A : Type 0} (h : A → A) (limit i : ℕ) (x y z : A)
    → (n : ℕ) × (n ≤ limit * i) × (y ≡ iterate h n x) → (n : ℕ) × (n ≤ limit) × (z ≡ iterate h n y)
    → (n : ℕ) × (n ≤ limit * (i + 1)) × (z ≡ iterate h n x)
words_more h limit i x y z before next =
    let few = before.1 in
    let one = next.1 in
    (before.0 + next.0, omega arith, next.2 ∙ ap (iterate h next.0) before.2 ∙ iterate-add h before.0 next.0 x)
