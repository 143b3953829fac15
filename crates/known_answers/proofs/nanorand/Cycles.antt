-- Known answers: how often a word occurs among a few draws, and distances between seeds.
use Rattle.std.specs.Prelude.{◌≡◌, refl, ◌⊎◌, ◌↔◌, ℕ, ◌+◌, ◌-◌, ◌%◌, ◌^◌, ◌<◌}
use Rattle.nanorand.specs.generators.Pcg64.{geometric_sum, affine_after, Generator, seed_after, pcg64_after}
use Rattle.nanorand.specs.generators.Frequencies.{pcg64_word_count, wyrand_word_count}
use Rattle.std.proofs.Common.{ap, inl, inr, sym, ◌∙◌, arith}
use Rattle.nanorand_core.specs.generators.Cycles.{Reaches, ReachesOnceBelow}
use Rattle.nanorand.specs.generators.WyRand.{wyrand_after}
use Rattle.nanorand.specs.support.Pcg64DrawLemmas.{seed_after-zero, seed_after-one, seed_after-add, pcg64_steps}
use Rattle.nanorand.proofs.lemmas.cycles.DoublingLemmas.{walk_mod_8}
use Rattle.nanorand.proofs.lemmas.cycles.Pcg64Lemmas.{u, v, seed_after-agree}
use Rattle.nanorand.proofs.lemmas.cycles.ReachLemmas.{reached-class, reached_once}
use Rattle.nanorand.specs.generators.WyRand as wyrand

-- The first word of the seed 0.
pcg64_first : pcg64_word_count 1 0 0xad39692f3f82753f ≡ 1
unfolding pcg64_word_count affine_after geometric_sum
pcg64_first = refl

pcg64_first_is_no_other : pcg64_word_count 1 0 0xad39692f3f82753e ≡ 0
unfolding pcg64_word_count affine_after geometric_sum
pcg64_first_is_no_other = refl

-- The seed itself yields no word: its own word, 0, is only produced by a draw.
pcg64_seed_is_not_counted : pcg64_word_count 3 0 0 ≡ 0
unfolding pcg64_word_count affine_after geometric_sum
pcg64_seed_is_not_counted = refl

-- Among no draws, there is no word.
pcg64_none : pcg64_word_count 0 0 0xad39692f3f82753f ≡ 0
unfolding pcg64_word_count
pcg64_none = refl

-- The first words of the seeds whose new seeds are 0 and 0xe7037ed1a0b428db.
wyrand_zero : wyrand_word_count 1 0x5f89e29b87429bd1 0 ≡ 1
unfolding wyrand_word_count
wyrand_zero = refl

wyrand_zero_again : wyrand_word_count 1 0x468d616d27f6c4ac 0 ≡ 1
unfolding wyrand_word_count
wyrand_zero_again = refl

-- The second word, after the first of these, is different.
wyrand_two : wyrand_word_count 2 0x5f89e29b87429bd1 0 ≡ 1
unfolding wyrand_word_count
wyrand_two = refl

-- WyRand: one draw, the way back by 2^64 - 1 draws, half a cycle, and zero draws.
wyrand_one : wyrand.seed_after 1 0 ≡ 0xa0761d6478bd642f
wyrand_one = refl

wyrand_back : wyrand.seed_after (2 ^ 64 - 1) 0xa0761d6478bd642f ≡ 0
wyrand_back = refl

wyrand_half : wyrand.seed_after (2 ^ 63) 0 ≡ 2 ^ 63
wyrand_half = refl

wyrand_to_itself : (seed : ℕ) → wyrand_after 0 seed ≡ seed
wyrand_to_itself seed = refl

-- Pcg64: one draw, the way back by 2^126 - 1 draws, and zero draws.
pcg64_one : seed_after 1 0 ≡ 0x3b1dd060ff2fd1e09624b94fc0ada4df
pcg64_one = seed_after-one 0

pcg64_back : seed_after (2 ^ 126 - 1) 0x3b1dd060ff2fd1e09624b94fc0ada4df ≡ 0
pcg64_back =
    ap (λ (s : ℕ). seed_after (2 ^ 126 - 1) s) (sym pcg64_one)
    ∙ sym (seed_after-add 1 (2 ^ 126 - 1) 0) ∙ (seed_after-agree 0 (2 ^ 126) 0).1 refl ∙ seed_after-zero 0

pcg64_to_itself : seed_after 0 0 ≡ 0
pcg64_to_itself = seed_after-zero 0

-- A jump by one draw is one draw.
abbrev from_zero : Generator
from_zero = record { seed = 0; state = 0; inc = 0 }

jump_of_one : pcg64_after 1 from_zero ≡ record { seed = 0x3b1dd060ff2fd1e09624b94fc0ada4df; state = 0x3b1dd060ff2fd1e09624b94fc0ada4df; inc = 1 }
jump_of_one = sym (pcg64_steps 1 from_zero)

-- No number of draws leads to a seed on another cycle.
zero_to_one : Reaches seed_after 0 1 → ⊥
zero_to_one leads =
    elim ((reached-class 0 1 (omega arith)).0 leads) [
      | inl same ↦ omega (arith, same)
      | inr opposite ↦ omega (arith, opposite)
    ]

five_to_three : Reaches seed_after 5 3 → ⊥
five_to_three leads =
    elim ((reached-class 5 3 (omega arith)).0 leads) [
      | inl same ↦ omega (arith, same)
      | inr opposite ↦ omega (arith, opposite)
    ]

-- Within a cycle, exactly one number of draws below the period leads to a seed. It is odd if the
-- seeds add up to 7 modulo 8, and even if they are equal modulo 8.
zero_to_seven : ReachesOnceBelow (2 ^ 126) seed_after 0 7
zero_to_seven = reached_once 0 7 (omega arith) (inr refl)

five_to_two : ReachesOnceBelow (2 ^ 126) seed_after 5 2
five_to_two = reached_once 5 2 (omega arith) (inr refl)

five_to_thirteen : ReachesOnceBelow (2 ^ 126) seed_after 5 13
five_to_thirteen = reached_once 5 13 (omega arith) (inl refl)

odd_to_seven : (n : ℕ) → seed_after n 0 ≡ 7 → n % 2 ≡ 1
odd_to_seven n leads =
    elim (walk_mod_8 u v n 0) [
      | inl even ↦ absurd (omega (arith, even.1, leads))
      | inr odd ↦ odd.0
    ]

odd_to_two : (n : ℕ) → seed_after n 5 ≡ 2 → n % 2 ≡ 1
odd_to_two n leads =
    elim (walk_mod_8 u v n 5) [
      | inl even ↦ absurd (omega (arith, even.1, leads))
      | inr odd ↦ odd.0
    ]

even_to_thirteen : (n : ℕ) → seed_after n 5 ≡ 13 → n % 2 ≡ 0
even_to_thirteen n leads =
    elim (walk_mod_8 u v n 5) [
      | inl even ↦ even.0
      | inr odd ↦ absurd (omega (arith, odd.1, leads))
    ]

-- From each seed below 8, draws lead to itself and to the seed that adds up to 7 with it, and to no
-- other seed below 8.
below_eight : (s t : ℕ) → s < 8 → t < 8 → Reaches seed_after s t ↔ ((s ≡ t) ⊎ (s + t ≡ 7))
below_eight s t s_low t_low = (
  λ leads. elim ((reached-class s t (omega arith)).0 leads) [
    | inl same ↦ inl (omega (arith, same))
    | inr opposite ↦ inr (omega (arith, opposite))
  ],
  λ pair. (reached-class s t (omega arith)).1 (elim pair [
    | inl same ↦ inl (omega (arith, same))
    | inr opposite ↦ inr (omega (arith, opposite))
  ]),
)
