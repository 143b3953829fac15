-- Lemmas about repeated draws. Not needed to understand the contracts: this file is in specs/ only
-- because laws of impls cite its lemmas.
use Rattle.std.proofs.Common.{◌≡◌, ℕ, zero, suc, ◌+◌, refl, sym, ap, ◌∙◌, add-one}
use Rattle.std.proofs.Math.Nat.{zero-add, suc-add}
use Rattle.std.specs.Fn.{iterate}
use Rattle.nanorand_core.specs.generators.Cycles.{DrawsLeave, OneMoreDraw, DrawsAdd}

module _ {G : Type 0} (step : G → G) where
  pub iterate-suc : (n : ℕ) (g : G) → iterate step (suc n) g ≡ step (iterate step n g)
  iterate-suc zero g = refl
  iterate-suc (suc n) g = iterate-suc n (step g)

  pub iterate-more : (n : ℕ) (g : G) → iterate step (n + 1) g ≡ step (iterate step n g)
  iterate-more n g = ap (λ (k : ℕ). iterate step k g) (add-one n) ∙ iterate-suc n g

  pub iterate-add : (m n : ℕ) (g : G) → iterate step (m + n) g ≡ iterate step n (iterate step m g)
  iterate-add zero n g = ap (λ (k : ℕ). iterate step k g) (zero-add n)
  iterate-add (suc m) n g = ap (λ (k : ℕ). iterate step k g) (suc-add m n) ∙ iterate-add m n (step g)

  -- the states after no draw and after one draw more determine the state after n draws
  module _ (after : ℕ → G → G) (none : (g : G) → after 0 g ≡ g) (more : OneMoreDraw step after) where
    pub draws_leave : DrawsLeave step after
    draws_leave zero g = sym (none g)
    draws_leave (suc n) g =
        iterate-suc n g ∙ ap step (draws_leave n g) ∙ sym (more n g) ∙ ap (λ (k : ℕ). after k g) (add-one n)

    pub draws_add : DrawsAdd after
    draws_add m n g =
        sym (draws_leave n (after m g)) ∙ ap (iterate step n) (sym (draws_leave m g)) ∙ sym (iterate-add m n g) ∙ draws_leave (m + n) g
