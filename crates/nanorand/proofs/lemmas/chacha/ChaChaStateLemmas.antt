-- The initial state of ChaCha, word by word, and its counter.
use Rattle.std.proofs.Common.{◌≡◌, ℕ, ◌+◌, ◌/◌, ◌%◌, ◌^◌, ◌≤◌, slice_index, List, [], ◌∷◌, length, drop, arith, refl, ap, sym, ◌∙◌}
use Rattle.std.specs.Int.{w32, from_le_bytes}
use Rattle.std.proofs.lemmas.List.{length-drop, drop-drop, drop_all}
use Rattle.nanorand.specs.generators.ChaCha.{words, initial_state, with_counter}
use Rattle.nanorand.proofs.lemmas.chacha.MatrixLemmas.{sixteen}

words-cons : (bs : List ℕ) → 4 ≤ length bs → words bs ≡ from_le_bytes w32 bs ∷ words (drop 4 bs)
words-cons (a ∷ b ∷ c ∷ d ∷ rest) h = refl
words-cons [] h = absurd (omega arith)
words-cons (a ∷ []) h = absurd (omega arith)
words-cons (a ∷ b ∷ []) h = absurd (omega arith)
words-cons (a ∷ b ∷ c ∷ []) h = absurd (omega arith)

-- one more 32-bit word, from the byte at index `at` on
words_from : (bs : List ℕ) (at : ℕ) (rest : List ℕ) → at + 4 ≤ length bs → words (drop (at + 4) bs) ≡ rest
    → words (drop at bs) ≡ from_le_bytes w32 (drop at bs) ∷ rest
words_from bs at rest h later =
    words-cons (drop at bs) (omega (arith, length-drop at bs))
    ∙ ap (λ x. from_le_bytes w32 (drop at bs) ∷ x) (ap words (drop-drop 4 at bs) ∙ later)

words_end : (bs : List ℕ) (n : ℕ) → length bs ≤ n → words (drop n bs) ≡ []
words_end bs n h = ap words (drop_all n bs h)

abbrev word : List ℕ → ℕ → ℕ
word bs at = from_le_bytes w32 (drop at bs)

pub words_of_8 : (bs : List ℕ) → length bs ≡ 8 → words bs ≡ word bs 0 ∷ word bs 4 ∷ []
words_of_8 bs h =
    words_from bs 0 _ (omega arith) (words_from bs 4 _ (omega arith) (words_end bs 8 (omega arith)))

pub words_of_32 : (bs : List ℕ) → length bs ≡ 32
    → words bs ≡ word bs 0 ∷ word bs 4 ∷ word bs 8 ∷ word bs 12 ∷ word bs 16 ∷ word bs 20 ∷ word bs 24 ∷ word bs 28 ∷ []
words_of_32 bs h =
    words_from bs 0 _ (omega arith) (words_from bs 4 _ (omega arith)
    (words_from bs 8 _ (omega arith) (words_from bs 12 _ (omega arith)
    (words_from bs 16 _ (omega arith) (words_from bs 20 _ (omega arith)
    (words_from bs 24 _ (omega arith) (words_from bs 28 _ (omega arith)
    (words_end bs 32 (omega arith)))))))))

-- the words of the constants, of a key, of the counter 0 and of a nonce make the initial state
pub initial_made : (key nonce : List ℕ) → length key ≡ 32 → length nonce ≡ 8 → {a b c d e f g h p q : ℕ}
    → a ≡ word key 0 → b ≡ word key 4 → c ≡ word key 8 → d ≡ word key 12
    → e ≡ word key 16 → f ≡ word key 20 → g ≡ word key 24 → h ≡ word key 28
    → p ≡ word nonce 0 → q ≡ word nonce 4
    → 0x61707865 ∷ 0x3320646e ∷ 0x79622d32 ∷ 0x6b206574 ∷ a ∷ b ∷ c ∷ d ∷ e ∷ f ∷ g ∷ h ∷ 0 ∷ 0 ∷ p ∷ q ∷ [] ≡ initial_state key nonce
unfolding initial_state
initial_made key nonce key_long nonce_long is_a is_b is_c is_d is_e is_f is_g is_h is_p is_q =
    rw (words_of_32 key key_long, words_of_8 nonce nonce_long, is_a, is_b, is_c, is_d, is_e, is_f, is_g, is_h, is_p, is_q) refl

-- a matrix with its counter set, word by word
pub with_counter-spelled : (x : List ℕ) (n : ℕ) → length x ≡ 16
    → with_counter x n ≡ slice_index x 0 ∷ slice_index x 1 ∷ slice_index x 2 ∷ slice_index x 3 ∷ slice_index x 4
    ∷ slice_index x 5 ∷ slice_index x 6 ∷ slice_index x 7 ∷ slice_index x 8 ∷ slice_index x 9 ∷ slice_index x 10
    ∷ slice_index x 11 ∷ n % 2 ^ 32 ∷ n / 2 ^ 32 ∷ slice_index x 14 ∷ slice_index x 15 ∷ []
with_counter-spelled x n =
    sixteen (λ x. with_counter x n ≡ slice_index x 0 ∷ slice_index x 1 ∷ slice_index x 2 ∷ slice_index x 3
    ∷ slice_index x 4 ∷ slice_index x 5 ∷ slice_index x 6 ∷ slice_index x 7 ∷ slice_index x 8 ∷ slice_index x 9
    ∷ slice_index x 10 ∷ slice_index x 11 ∷ n % 2 ^ 32 ∷ n / 2 ^ 32 ∷ slice_index x 14 ∷ slice_index x 15 ∷ [])
    (λ a b c d e f g h i j k l m o p q. refl) x

-- a matrix whose counter has these two words
pub with_counter-halves : (x : List ℕ) (n low high : ℕ) → length x ≡ 16 → low ≡ n % 2 ^ 32 → high ≡ n / 2 ^ 32
    → slice_index x 0 ∷ slice_index x 1 ∷ slice_index x 2 ∷ slice_index x 3 ∷ slice_index x 4 ∷ slice_index x 5
    ∷ slice_index x 6 ∷ slice_index x 7 ∷ slice_index x 8 ∷ slice_index x 9 ∷ slice_index x 10 ∷ slice_index x 11
    ∷ low ∷ high ∷ slice_index x 14 ∷ slice_index x 15 ∷ [] ≡ with_counter x n
with_counter-halves x n low high long is_low is_high = rw (is_low, is_high) (sym (with_counter-spelled x n long))
