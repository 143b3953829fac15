-- The four cycles of the seeds of Pcg64.
use Rattle.std.proofs.Common.{◌≡◌, ℕ, suc, ◌+◌, ◌-◌, ◌*◌, ◌/◌, ◌%◌, ◌^◌, ◌<◌, sym, ap, ◌∙◌, arith, bit_xor}
use Rattle.std.proofs.Math.Nat.{mod-add-mod, mod-eq-zero_of_dvd}
use Rattle.std.proofs.lemmas.Nat.{from_le_bytes-to_le_bytes_8}
use Rattle.std.specs.Fn.{iterate}
use Rattle.std.specs.Int.{◌∣◌, w64, to_le_bytes, from_le_bytes}
use Rattle.nanorand_core.specs.generators.Cycles.{IsPeriod, PeriodsAreMultiplesOf, AgreeModulo}
use Rattle.nanorand_core.specs.support.IterateLemmas.{iterate-add}
use Rattle.nanorand.specs.generators.Halves.{folded}
use Rattle.nanorand.specs.generators.Pcg64.{factor, term, next_seed, Generator, next, pcg64_block, seed_after, pcg64_after}
use Rattle.nanorand.specs.support.Pcg64DrawLemmas.{seed_after-suc, pcg64_words}
use Rattle.nanorand.proofs.lemmas.cycles.HalvesLemmas.{folded-top, folded-lt, xor_apart}
use Rattle.nanorand.proofs.lemmas.cycles.CycleLemmas.{walk-same, same-walk, walk_stride}
use Rattle.nanorand.proofs.lemmas.cycles.DoublingLemmas.{walk}
use Rattle.nanorand.proofs.lemmas.cycles.PeriodLemmas.{periods_are_multiples}

-- `factor` is 16 * u + 7 and `term` is 8 * v + 7, so the seeds are a walk modulo 2 ^ 128
abbrev pub u : ℕ
u = factor / 16

abbrev pub v : ℕ
v = term / 8

-- i draws and j draws lead from a seed to the same seed if and only if i and j agree modulo 2 ^ 126
pub seed_after-agree : (s : ℕ) → AgreeModulo (2 ^ 126) seed_after s
seed_after-agree s i j = (same-walk u v 125 i j s, walk-same u v 125 i j s)

-- 2 ^ 125 more draws add 2 ^ 127
pub seed_after-half : (n s : ℕ) → seed_after (n + 2 ^ 125) s ≡ (seed_after n s + 2 ^ 127) % 2 ^ 128
seed_after-half n s = walk_stride u v 124 n s ∙ sym (mod-add-mod (walk u v n s) (2 ^ 128) (2 ^ 127))

seed_after-fits : (n s : ℕ) → seed_after n s < 2 ^ 128
seed_after-fits n s = omega arith

-- 2 ^ 125 more draws flip the top bit of the word, and no other
pub word-half : (n s : ℕ) → folded (seed_after (n + 2 ^ 125) s) ≡ bit_xor (folded (seed_after n s)) (2 ^ 63)
word-half n s = ap folded (seed_after-half n s) ∙ folded-top (seed_after n s) (seed_after-fits n s)

-- if blocks are equal, their words are equal
word-block : (s t : ℕ) → s < 2 ^ 128 → t < 2 ^ 128 → to_le_bytes w64 (folded s) ≡ to_le_bytes w64 (folded t) → folded s ≡ folded t
word-block s t s_fits t_fits same =
    sym (from_le_bytes-to_le_bytes_8 (folded s) (folded-lt s s_fits)) ∙ ap (from_le_bytes w64) same
    ∙ from_le_bytes-to_le_bytes_8 (folded t) (folded-lt t t_fits)

-- a number of draws that is 2 ^ 125 modulo 2 ^ 126 is not a period
half_no_period : (g : Generator) (d : ℕ) → d % 2 ^ 126 ≡ 2 ^ 125 → ¬ (IsPeriod next pcg64_block g d)
half_no_period g d half period =
    let s = g.seed in
    let here : pcg64_block g ≡ to_le_bytes w64 (folded (seed_after 1 s)) = pcg64_words 0 g in
    let there : pcg64_block (iterate next d g) ≡ to_le_bytes w64 (folded (seed_after (d + 1) s)) = pcg64_words d g in
    let same_word = word-block (seed_after (d + 1) s) (seed_after 1 s) (seed_after-fits (d + 1) s) (seed_after-fits 1 s) (sym there ∙ period 0 ∙ here) in
    let half_way : seed_after (d + 1) s ≡ seed_after (1 + 2 ^ 125) s = (seed_after-agree s (d + 1) (1 + 2 ^ 125)).1 (omega arith) in
    xor_apart (folded (seed_after 1 s)) (sym (word-half 1 s) ∙ ap folded (sym half_way) ∙ same_word)

whole_period : (g : Generator) (d : ℕ) → 2 ^ 126 ∣ d → IsPeriod next pcg64_block g d
whole_period g d divides n =
    let whole : d % 2 ^ 126 ≡ 0 = mod-eq-zero_of_dvd (2 ^ 126) divides in
    ap pcg64_block (sym (iterate-add next d n g)) ∙ pcg64_words (d + n) g
    ∙ ap (λ (s : ℕ). to_le_bytes w64 (folded s)) ((seed_after-agree g.seed (d + n + 1) (n + 1)).1 (omega arith))
    ∙ sym (pcg64_words n g)

pub pcg64_periods : (g : Generator) → PeriodsAreMultiplesOf (2 ^ 126) next pcg64_block g
pcg64_periods g = periods_are_multiples next pcg64_block g 125 (whole_period g) (half_no_period g)

-- n draws: n - 1 of them in closed form, and the last one as an ordinary draw
pub next-last : (n s : ℕ) (g : Generator) → 0 < n → s ≡ seed_after (n - 1) g.seed
    → record { seed = next_seed s; state = next_seed s; inc = (2 * s + 1) % 2 ^ 128 } ≡ pcg64_after n g
next-last n s g some before =
    let whole : suc (n - 1) ≡ n = omega arith in
    ap (λ (t : ℕ). next (record { seed = t; state = 0; inc = 0 })) before
    ∙ ap (λ (t : ℕ). record { seed = t; state = t; inc = (2 * seed_after (n - 1) g.seed + 1) % 2 ^ 128 }) (sym (seed_after-suc (n - 1) g.seed))
    ∙ ap (λ (k : ℕ). pcg64_after k g) whole
