-- Known answers: Pcg64, computed from the definitions alone.
use Rattle.std.specs.Prelude.{◌≡◌, ℕ, ◌+◌, ◌*◌, ◌%◌, ◌^◌, [], ◌∷◌, map, true, false, refl}
use Rattle.std.specs.Fn.{iterate}
use Rattle.std.specs.List.{range_with_len}
use Rattle.std.proofs.Common.{◌∙◌, arith}
use Rattle.nanorand.specs.generators.Pcg64.{multiplier, factor, term, next_seed, Generator, next, pcg64_block, reseeded}
use Rattle.nanorand.specs.generators.Pcg64.{same_generator, geometric_sum, affine_after, seed_after, pcg64_after}
use Rattle.nanorand.specs.support.Pcg64DrawLemmas.{seed_after-zero}
use Rattle.nanorand.proofs.lemmas.cycles.Pcg64Lemmas.{seed_after-half, seed_after-agree}

-- One draw, written out.
next_seed_in_full : (seed : ℕ) → next_seed seed
    ≡ ((3 * multiplier * multiplier + 2 * multiplier + 2) * seed + multiplier * multiplier + multiplier + 1) % 2 ^ 128
next_seed_in_full seed = omega arith

term_in_digits : term ≡ 0x3b1dd060ff2fd1e09624b94fc0ada4df
term_in_digits = refl

factor_modulo_16 : factor % 16 ≡ 7
factor_modulo_16 = refl

abbrev from_zero : Generator
from_zero = record { seed = 0; state = 0; inc = 0 }

first_of_zero : next from_zero ≡ record { seed = 0x3b1dd060ff2fd1e09624b94fc0ada4df; state = 0x3b1dd060ff2fd1e09624b94fc0ada4df; inc = 1 }
first_of_zero = refl

-- All three numbers are compared.
same : same_generator from_zero from_zero ≡ true
same = refl

another_seed : same_generator from_zero (record { seed = 2 ^ 64; state = 0; inc = 0 }) ≡ false
another_seed = refl

another_state : same_generator from_zero (record { seed = 0; state = 1; inc = 0 }) ≡ false
another_state = refl

another_inc : same_generator from_zero (record { seed = 0; state = 0; inc = 1 }) ≡ false
another_inc = refl

block_of_zero : pcg64_block from_zero ≡ 0x3f ∷ 0x75 ∷ 0x82 ∷ 0x3f ∷ 0x2f ∷ 0x69 ∷ 0x39 ∷ 0xad ∷ []
block_of_zero = refl

block_of_half : pcg64_block (record { seed = 2 ^ 127; state = 0; inc = 0 }) ≡ 0x3f ∷ 0x75 ∷ 0x82 ∷ 0x3f ∷ 0x2f ∷ 0x69 ∷ 0x39 ∷ 0x2d ∷ []
block_of_half = refl

-- Reseeding keeps the old `state` and `inc`.
reseeded_after_a_draw : reseeded (next from_zero) (0 ∷ 0 ∷ 0 ∷ 0 ∷ 0 ∷ 0 ∷ 0 ∷ 0 ∷ 0 ∷ 0 ∷ 0 ∷ 0 ∷ 0 ∷ 0 ∷ 0 ∷ 0 ∷ [])
    ≡ record { seed = 0; state = 0x3b1dd060ff2fd1e09624b94fc0ada4df; inc = 1 }
reseeded_after_a_draw = refl

-- Jumps by 2^125 and 2^126 draws from the seed 5.
half_way_round : seed_after (2 ^ 125) 5 ≡ 2 ^ 127 + 5
half_way_round = seed_after-half 0 5 ∙ omega (arith, seed_after-zero 5)

whole_way_round : seed_after (2 ^ 126) 5 ≡ 5
whole_way_round = (seed_after-agree 5 (2 ^ 126) 0).1 refl ∙ seed_after-zero 5

no_jump : (g : Generator) → pcg64_after 0 g ≡ g
no_jump g = refl

-- The constants in hexadecimal, and modulo powers of 2.
multiplier_in_digits : multiplier ≡ 0x2360ed051fc65da44385df649fccf645
multiplier_in_digits = refl

term_is_odd : term % 2 ≡ 1
term_is_odd = refl

-- Modulo 8, a draw changes s to 7 - s.
draws_modulo_8 : map (λ s. next_seed s % 8) (range_with_len 0 8) ≡ 7 ∷ 6 ∷ 5 ∷ 4 ∷ 3 ∷ 2 ∷ 1 ∷ 0 ∷ []
draws_modulo_8 = refl

-- A hundred draws, one by one and in closed form.
hundred_draws : (iterate next 100 from_zero).seed ≡ seed_after 100 0
unfolding affine_after geometric_sum
hundred_draws = refl

hundred_at_once : iterate next 100 from_zero ≡ pcg64_after 100 from_zero
unfolding affine_after geometric_sum
hundred_at_once = refl
