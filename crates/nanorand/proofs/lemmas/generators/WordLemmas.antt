-- The numbers of 64-bit words.
use Rattle.std.proofs.Common.{◌≡◌, ℕ, ◌/◌, ◌%◌, ◌^◌, ◌<◌, refl, sym, ap, ◌∙◌, arith, lit<}
use Rattle.std.proofs.lemmas.Nat.{mul-lt, xor_lt, from_le_bytes-to_le_bytes_8}
use Rattle.std.specs.Int.{w64, to_le_bytes}
use Rattle.nanorand_core.specs.values.Values.{number_of}
use Rattle.nanorand_core.specs.support.BlockLemmas.{taken_block}
use Rattle.nanorand.specs.generators.Halves.{folded}
use Rattle.nanorand.specs.generators.WyRand.{word, wyrand_block, wyrand_requests}
use Rattle.nanorand.specs.generators.WyRand as wyrand
use Rattle.nanorand.specs.generators.Pcg64.{Generator, next, pcg64_block, pcg64_requests, pcg64_after}
use Rattle.nanorand.specs.generators.Pcg64 as pcg64
use Rattle.nanorand.specs.support.Pcg64DrawLemmas.{pcg64_steps, seed_after-one}
use Rattle.nanorand.proofs.lemmas.generators.SeedLemmas.{number_of_8}

-- the number of the eight bytes of a word is the word
number_of-word : (n : ℕ) → n < 2 ^ 64 → number_of (to_le_bytes w64 n) ≡ n
number_of-word n fits = sym (number_of_8 (to_le_bytes w64 n) refl) ∙ from_le_bytes-to_le_bytes_8 n fits

folded-fits : (wide : ℕ) → wide < 2 ^ 128 → folded wide < 2 ^ 64
folded-fits wide fits = xor_lt 64 (wide / 2 ^ 64) (wide % 2 ^ 64) (omega arith) (omega arith)

word-fits : (seed : ℕ) → seed < 2 ^ 64 → word seed < 2 ^ 64
word-fits seed fits =
    folded-fits _ (mul-lt seed _ (2 ^ 64) (2 ^ 64) fits (xor_lt 64 seed 0xe7037ed1a0b428db fits (lit< tt)))

pub wyrand_number : (seed : ℕ) → number_of (wyrand_requests.bytes seed 8) ≡ word (wyrand.seed_after 1 seed)
wyrand_number seed =
    ap number_of (taken_block wyrand_block wyrand.next_seed 8 (lit< tt) (λ _. refl) seed)
    ∙ number_of-word (word (wyrand.next_seed seed)) (word-fits (wyrand.next_seed seed) (omega arith))

pub pcg64_number : (g : Generator) → number_of (pcg64_requests.bytes g 8) ≡ folded (pcg64.seed_after 1 g.seed)
pcg64_number g =
    ap number_of (taken_block pcg64_block next 8 (lit< tt) (λ _. refl) g)
    ∙ number_of-word (folded (pcg64.next_seed g.seed)) (folded-fits (pcg64.next_seed g.seed) (omega arith))
    ∙ ap folded (sym (seed_after-one g.seed))

pub pcg64_one : (g : Generator) → pcg64_requests.after g 8 ≡ pcg64_after 1 g
pcg64_one g = pcg64_steps 1 g
