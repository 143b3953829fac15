-- Multiples of periods.
use Rattle.std.proofs.Common.{◌≡◌, ℕ, zero, suc, ◌+◌, ◌*◌, ◌%◌, ◌^◌, inl, inr, sym, ap, ◌∙◌, arith}
use Rattle.std.proofs.Math.Nat.{suc-mul, zero-mul, dvd_of_mod-eq-zero}
use Rattle.std.proofs.lemmas.Bool.{cases_eq}
use Rattle.std.specs.Int.{◌∣◌}
use Rattle.std.specs.Fn.{iterate}
use Rattle.nanorand_core.specs.generators.Cycles.{IsPeriod, PeriodsAreMultiplesOf}
use Rattle.nanorand_core.specs.support.IterateLemmas.{iterate-add}
use Rattle.nanorand.proofs.lemmas.cycles.ModulusLemmas.{half_multiple}

module _ {G B : Type 0} (step : G → G) (block : G → B) (g : G) where
  -- a multiple of a period is a period
  IsPeriod-multiple : (d k : ℕ) → IsPeriod step block g d → IsPeriod step block g (k * d)
  IsPeriod-multiple d zero period n =
      ap (λ (j : ℕ). block (iterate step n (iterate step j g))) (zero-mul d)
  IsPeriod-multiple d (suc k) period n =
      let turned : suc k * d + n ≡ d + (k * d + n) = omega (arith, suc-mul k d) in
      ap block (sym (iterate-add step (suc k * d) n g)) ∙ ap (λ (j : ℕ). block (iterate step j g)) turned
      ∙ ap block (iterate-add step d (k * d + n) g) ∙ period (k * d + n)
      ∙ ap block (iterate-add step (k * d) n g) ∙ IsPeriod-multiple d k period n

  -- Assume that the multiples of 2^(w + 1) are periods, and that the odd multiples of 2^w are not.
  -- Then no other number is a period: it has a multiple that is 2^w modulo 2^(w + 1).
  pub periods_are_multiples : (w : ℕ) → ((d : ℕ) → 2 ^ suc w ∣ d → IsPeriod step block g d)
      → ((d : ℕ) → d % 2 ^ suc w ≡ 2 ^ w → ¬ (IsPeriod step block g d)) → PeriodsAreMultiplesOf (2 ^ suc w) step block g
  periods_are_multiples w whole half d = (only, whole d)
    where
      only : IsPeriod step block g d → 2 ^ suc w ∣ d
      only period =
          elim (cases_eq (d % 2 ^ suc w) 0) [
            | inl divides ↦ dvd_of_mod-eq-zero (2 ^ suc w) divides
            | inr apart ↦
                let found = half_multiple w d apart in
                absurd (half (found.0 * d) found.1 (IsPeriod-multiple d found.0 period))
          ]
