-- Which seeds of Pcg64 can be reached from which.
use Rattle.std.proofs.Common.{◌≡◌, ℕ, ◌%◌, ◌^◌, ◌<◌, ◌↔◌, inl, inr, sym, ◌∙◌, arith, subst}
use Rattle.std.proofs.Math.Nat.{mod-eq_of_lt, mod-mod}
use Rattle.nanorand_core.specs.generators.Cycles.{Reaches, ReachesOnceBelow}
use Rattle.nanorand.specs.generators.Pcg64.{seed_after, SameCycle}
use Rattle.nanorand.proofs.lemmas.cycles.CycleLemmas.{reaches}
use Rattle.nanorand.proofs.lemmas.cycles.DoublingLemmas.{walk_mod_8}
use Rattle.nanorand.proofs.lemmas.cycles.Pcg64Lemmas.{u, v, seed_after-agree}

-- some number of draws leads to each seed of the same cycle
pub reached : (s t : ℕ) → t < 2 ^ 128 → SameCycle s t → Reaches seed_after s t
reached s t fits class =
    let found = reaches u v 125 s t class in
    (found.0, found.1 ∙ mod-eq_of_lt fits)

-- draws stay on a cycle
pub seed_after-class : (n s : ℕ) → SameCycle s (seed_after n s)
seed_after-class n s =
    elim (walk_mod_8 u v n s) [
      | inl even ↦ inl (omega (arith, even.1))
      | inr odd ↦ inr (omega (arith, odd.1))
    ]

pub reached-class : (s t : ℕ) → t < 2 ^ 128 → Reaches seed_after s t ↔ SameCycle s t
reached-class s t fits = (
  λ found. (let P : ℕ → Type 0 = λ t. SameCycle s t in subst P found.1 (seed_after-class found.0 s)),
  reached s t fits,
)

-- at most one number of draws below 2 ^ 126 leads from a seed to another
pub seed_after-only : (m n s : ℕ) → m < 2 ^ 126 → n < 2 ^ 126 → seed_after m s ≡ seed_after n s → m ≡ n
seed_after-only m n s m_fits n_fits same = sym (mod-eq_of_lt m_fits) ∙ (seed_after-agree s m n).0 same ∙ mod-eq_of_lt n_fits

pub reached_once : (s t : ℕ) → t < 2 ^ 128 → SameCycle s t → ReachesOnceBelow (2 ^ 126) seed_after s t
reached_once s t fits class =
    let found = reached s t fits class in
    let n = found.0 % 2 ^ 126 in
    let below : n < 2 ^ 126 = omega arith in
    let there : seed_after n s ≡ t = (seed_after-agree s n found.0).1 (mod-mod found.0 (2 ^ 126)) ∙ found.1 in
    (n, below, there, λ m m_below leads. seed_after-only m n s m_below below (leads ∙ sym there))
