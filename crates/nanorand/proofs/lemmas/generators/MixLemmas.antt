-- Different numbers give different seeds: the mixing of SplitMix64 can be undone.
use Rattle.std.proofs.Common.{◌≡◌, ℕ, ◌+◌, ◌-◌, ◌*◌, ◌/◌, ◌%◌, ◌^◌, ◌<◌, ◌≤◌, List, ◌++◌, [], ◌∷◌, refl, sym, ◌∙◌, ap, arith, lit<, bit_xor, w64}
use Rattle.std.specs.Int.{to_le_bytes}
use Rattle.std.specs.Int.Bits.{xor_assoc, xor_self, xor_zero_l, xor_zero_r}
use Rattle.std.specs.List.{slice_index}
use Rattle.std.proofs.lemmas.List.{take_all}
use Rattle.std.proofs.Math.Nat.{div-div-eq-div-mul, div-eq_of_lt, div-le_self}
use Rattle.std.proofs.lemmas.Nat.{pow-add, xor_shr, xor_lt, from_le_bytes-to_le_bytes_8}
use Rattle.nanorand_core.specs.support.BlockLemmas.{taken_more}
use Rattle.nanorand_core.specs.values.Values.{number_of}
use Rattle.nanorand.specs.generators.ChaCha.{initial_state, seeded_state}
use Rattle.nanorand.specs.generators.SplitMix.{mixed, seed_from, split_mix_block, split_mix_next, xor_shifted_by}
use Rattle.nanorand.proofs.lemmas.generators.SeedLemmas.{number_of_8}

-- x xor (x shifted by s), applied twice, is x xor (x shifted by 2 s)
twice : (s x : ℕ) → xor_shifted_by s (xor_shifted_by s x) ≡ xor_shifted_by (s + s) x
twice s x =
    let half : ℕ = x / 2 ^ s in
    let quarter = div-div-eq-div-mul x (2 ^ s) (2 ^ s) ∙ ap (λ (n : ℕ). x / n) (sym (pow-add 2 s s)) in
    let shifted : xor_shifted_by s x / 2 ^ s ≡ bit_xor half (half / 2 ^ s) = xor_shr x half s in
    ap (bit_xor (bit_xor x half)) shifted
    ∙ xor_assoc x half (bit_xor half (half / 2 ^ s))
    ∙ ap (bit_xor x) (sym (xor_assoc half half (half / 2 ^ s)) ∙ ap (λ (z : ℕ). bit_xor z (half / 2 ^ s)) (xor_self half) ∙ xor_zero_l (half / 2 ^ s) ∙ quarter)

-- if the shift moves out all bits, x is unchanged
past : (s x : ℕ) → x < 2 ^ s → xor_shifted_by s x ≡ x
past s x fits = ap (bit_xor x) (div-eq_of_lt fits) ∙ xor_zero_r x

module _ (s x y : ℕ) (x_fits : x < 2 ^ (s + s + (s + s))) (y_fits : y < 2 ^ (s + s + (s + s))) where
  back : (n : ℕ) → n < 2 ^ (s + s + (s + s)) → xor_shifted_by (s + s) (xor_shifted_by s (xor_shifted_by s n)) ≡ n
  back n fits = ap (xor_shifted_by (s + s)) (twice s n) ∙ twice (s + s) n ∙ past (s + s + (s + s)) n fits

  unshifted : xor_shifted_by s x ≡ xor_shifted_by s y → x ≡ y
  unshifted same = sym (back x x_fits) ∙ ap (λ (n : ℕ). xor_shifted_by (s + s) (xor_shifted_by s n)) same ∙ back y y_fits

shifted_fits : (s x : ℕ) → x < 2 ^ 64 → xor_shifted_by s x < 2 ^ 64
shifted_fits s x fits = let less = div-le_self x (2 ^ s) in xor_lt 64 x (x / 2 ^ s) fits (omega (arith, less, fits))

mixed_fits : (n : ℕ) → n < 2 ^ 64 → mixed n < 2 ^ 64
mixed_fits n fits =
    let first : ℕ = (xor_shifted_by 30 n * 0xbf58476d1ce4e5b9) % 2 ^ 64 in
    shifted_fits 31 ((xor_shifted_by 27 first * 0x94d049bb133111eb) % 2 ^ 64) (omega arith)

unmixed : (m n : ℕ) → m < 2 ^ 64 → n < 2 ^ 64 → mixed m ≡ mixed n → m ≡ n
unmixed m n m_fits n_fits same =
    let a : ℕ = xor_shifted_by 30 m in
    let b : ℕ = xor_shifted_by 30 n in
    let a_fits : a < 2 ^ 64 = shifted_fits 30 m m_fits in
    let b_fits : b < 2 ^ 64 = shifted_fits 30 n n_fits in
    let c : ℕ = (a * 0xbf58476d1ce4e5b9) % 2 ^ 64 in
    let d : ℕ = (b * 0xbf58476d1ce4e5b9) % 2 ^ 64 in
    let e : ℕ = xor_shifted_by 27 c in
    let f : ℕ = xor_shifted_by 27 d in
    let e_fits : e < 2 ^ 64 = shifted_fits 27 c (omega arith) in
    let f_fits : f < 2 ^ 64 = shifted_fits 27 d (omega arith) in
    let seconds : (e * 0x94d049bb133111eb) % 2 ^ 64 ≡ (f * 0x94d049bb133111eb) % 2 ^ 64 =
    unshifted 31 ((e * 0x94d049bb133111eb) % 2 ^ 64) ((f * 0x94d049bb133111eb) % 2 ^ 64) (omega arith) (omega arith) same in
    let es : e ≡ f = omega (arith, seconds, e_fits, f_fits) in
    let firsts : c ≡ d = unshifted 27 c d (omega arith) (omega arith) es in
    let products : a ≡ b = omega (arith, firsts, a_fits, b_fits) in
    unshifted 30 m n (omega arith) (omega arith) products

-- the words of two numbers are equal only if the numbers are
pub words-apart : (m n : ℕ) → m < 2 ^ 64 → n < 2 ^ 64 → mixed (split_mix_next m) ≡ mixed (split_mix_next n) → m ≡ n
words-apart m n m_fits n_fits same =
    let next : split_mix_next m ≡ split_mix_next n = unmixed (split_mix_next m) (split_mix_next n) (omega arith) (omega arith) same in
    omega (arith, next)

-- a seed begins with the eight bytes of the first word
begins : (size n : ℕ) → 8 ≤ size → seed_from size n ≡ split_mix_block n ++ seed_from (size - 8) (split_mix_next n)
begins size n long =
    taken_more split_mix_block split_mix_next 8 (lit< tt) (λ _. refl) n size
    ∙ ap (λ front. front ++ seed_from (size - 8) (split_mix_next n)) (take_all size (split_mix_block n) long)

word_fits : (n : ℕ) → mixed (split_mix_next n) < 2 ^ 64
word_fits n = mixed_fits (split_mix_next n) (omega arith)

-- the number of the bytes of a word and of those that follow
front : (a b c d e f g h : ℕ) (rest : List ℕ) → number_of (a ∷ b ∷ c ∷ d ∷ e ∷ f ∷ g ∷ h ∷ rest)
    ≡ number_of (a ∷ b ∷ c ∷ d ∷ e ∷ f ∷ g ∷ h ∷ []) + 2 ^ 64 * number_of rest
front a b c d e f g h rest = omega arith

number-begins : (size n : ℕ) → 8 ≤ size → number_of (seed_from size n) ≡ mixed (split_mix_next n) + 2 ^ 64 * number_of (seed_from (size - 8) (split_mix_next n))
number-begins size n long =
    ap number_of (begins size n long) ∙ front _ _ _ _ _ _ _ _ (seed_from (size - 8) (split_mix_next n))
    ∙ ap (λ (k : ℕ). k + 2 ^ 64 * number_of (seed_from (size - 8) (split_mix_next n)))
    (sym (number_of_8 (split_mix_block n) refl) ∙ from_le_bytes-to_le_bytes_8 (mixed (split_mix_next n)) (word_fits n))

-- so seeds with equal numbers have equal words
pub numbers-apart : (size m n : ℕ) → 8 ≤ size → m < 2 ^ 64 → n < 2 ^ 64 → number_of (seed_from size m) ≡ number_of (seed_from size n) → m ≡ n
numbers-apart size m n long m_fits n_fits same =
    words-apart m n m_fits n_fits
    (omega (arith, sym (number-begins size m long) ∙ same ∙ number-begins size n long, word_fits m, word_fits n))

-- the first two words of ChaCha's key are the halves of the first word
low-of : (w : ℕ) (rest : List ℕ) → slice_index (seeded_state (to_le_bytes w64 w ++ rest)) 4 ≡ w % 2 ^ 32
unfolding initial_state
low-of w rest = omega arith

high-of : (w : ℕ) (rest : List ℕ) → w < 2 ^ 64 → slice_index (seeded_state (to_le_bytes w64 w ++ rest)) 5 ≡ w / 2 ^ 32
unfolding initial_state
high-of w rest fits = omega (arith, fits)

pub states-apart : (m n : ℕ) → m < 2 ^ 64 → n < 2 ^ 64 → seeded_state (seed_from 40 m) ≡ seeded_state (seed_from 40 n) → m ≡ n
states-apart m n m_fits n_fits same =
    let more = λ (k : ℕ). seed_from 32 (split_mix_next k) in
    let first = λ (k : ℕ). ap (λ seed. slice_index (seeded_state seed) 4) (begins 40 k (omega arith)) ∙ low-of (mixed (split_mix_next k)) (more k) in
    let second = λ (k : ℕ). ap (λ seed. slice_index (seeded_state seed) 5) (begins 40 k (omega arith)) ∙ high-of (mixed (split_mix_next k)) (more k) (word_fits k) in
    let lows = sym (first m) ∙ ap (λ state. slice_index state 4) same ∙ first n in
    let highs = sym (second m) ∙ ap (λ state. slice_index state 5) same ∙ second n in
    words-apart m n m_fits n_fits (omega (arith, lows, highs))
