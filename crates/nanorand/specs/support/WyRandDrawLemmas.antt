-- Lemmas about many draws of WyRand. Not needed to understand the contracts: this file is in specs/
-- only because laws of impls cite its lemmas.
use Rattle.std.proofs.Common.{◌≡◌, ℕ, zero, suc, ◌+◌, ◌^◌, ◌<◌, refl, sym, ap, ◌∙◌, arith, add-one}
use Rattle.std.specs.Fn.{iterate}
use Rattle.std.specs.Int.{w64, to_le_bytes}
use Rattle.nanorand_core.specs.generators.Cycles.{DrawsLeave, OneMoreDraw, DrawsAdd}
use Rattle.nanorand_core.specs.support.IterateLemmas.{draws_leave, draws_add}
use Rattle.nanorand.specs.generators.WyRand.{next_seed, seed_after, word, wyrand_after, wyrand_block}

pub wyrand_none : (seed : ℕ) → wyrand_after 0 seed ≡ seed
wyrand_none seed = refl

pub wyrand_more : OneMoreDraw next_seed wyrand_after
wyrand_more zero seed = omega arith
wyrand_more (suc n) seed = ap (λ (k : ℕ). wyrand_after k seed) (add-one (suc n)) ∙ omega arith

pub wyrand_steps : DrawsLeave next_seed wyrand_after
wyrand_steps = draws_leave next_seed wyrand_after wyrand_none wyrand_more

pub wyrand_adds : DrawsAdd wyrand_after
wyrand_adds = draws_add next_seed wyrand_after wyrand_none wyrand_more

-- from a seed, or after at least one draw, the state is the closed form
pub wyrand_seeds : (n seed : ℕ) → wyrand_after (n + 1) seed ≡ seed_after (n + 1) seed
wyrand_seeds n seed = ap (λ (k : ℕ). wyrand_after k seed) (add-one n) ∙ omega arith

pub wyrand_closed : (n seed : ℕ) → seed < 2 ^ 64 → wyrand_after n seed ≡ seed_after n seed
wyrand_closed zero seed fits = omega arith
wyrand_closed (suc n) seed fits = refl

pub wyrand_fits : (n seed : ℕ) → seed < 2 ^ 64 → wyrand_after n seed < 2 ^ 64
wyrand_fits zero seed fits = fits
wyrand_fits (suc n) seed fits = omega arith

-- block n is the word after n + 1 draws
pub wyrand_words : (n seed : ℕ) → wyrand_block (iterate next_seed n seed) ≡ to_le_bytes w64 (word (seed_after (n + 1) seed))
wyrand_words n seed =
    ap wyrand_block (wyrand_steps n seed)
    ∙ ap (λ (s : ℕ). to_le_bytes w64 (word s)) (sym (wyrand_more n seed) ∙ wyrand_seeds n seed)
