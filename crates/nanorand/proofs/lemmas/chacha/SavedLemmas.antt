-- The state of ChaCha, and its key, nonce and counter.
use Rattle.std.proofs.Common.{◌≡◌, ℕ, zero, suc, ◌+◌, ◌%◌, ◌^◌, ◌<◌, List, [], ◌∷◌, ◌++◌, length, take, drop}
use Rattle.std.proofs.Common.{slice_index, slice_range, refl, sym, ap, ap₂, ◌∙◌, arith, lit<}
use Rattle.std.specs.Fn.{iterate}
use Rattle.std.specs.Int.{w32, from_le_bytes}
use Rattle.std.proofs.lemmas.List.{get_or-drop}
use Rattle.std.proofs.lemmas.Nat.{le_bytes_4, from_le_bytes-to_le_bytes_4}
use Rattle.nanorand.specs.generators.ChaChaRounds.{IsMatrix}
use Rattle.nanorand.specs.generators.ChaCha.{constants, words, bytes, initial_state, state_at, key_of, next_state, nonce_of, counter, with_counter}
use Rattle.nanorand.specs.support.ChaChaDrawLemmas.{counter-with_counter, chacha_closed, chacha_steps, with_counter-twice}
use Rattle.nanorand.proofs.lemmas.chacha.MatrixLemmas.{sixteen}
use Rattle.nanorand.proofs.lemmas.chacha.ChaChaStateLemmas.{words_of_8, words_of_32}

-- each state begins with the constants
pub constants-initial_state : (key nonce : List ℕ) → take 4 (initial_state key nonce) ≡ constants
unfolding initial_state
constants-initial_state key nonce = refl

-- setting the counter changes none of the first four words
pub front-with_counter : (x : List ℕ) (n : ℕ) → take 4 (with_counter x n) ≡ take 4 x
front-with_counter [] n = refl
front-with_counter (a ∷ []) n = refl
front-with_counter (a ∷ b ∷ []) n = refl
front-with_counter (a ∷ b ∷ c ∷ []) n = refl
front-with_counter (a ∷ b ∷ c ∷ d ∷ x) n = refl

pub constants-state_at : (key nonce : List ℕ) (n : ℕ) → take 4 (state_at key nonce n) ≡ constants
unfolding state_at
constants-state_at key nonce n = front-with_counter (initial_state key nonce) n ∙ constants-initial_state key nonce

-- the words of the bytes of words
words-bytes : (xs : List ℕ) → ((k : ℕ) → slice_index xs k < 2 ^ 32) → words (bytes xs) ≡ xs
words-bytes [] fits = refl
words-bytes (x ∷ xs) fits =
    ap₂ (λ (w : ℕ) (rest : List ℕ). w ∷ rest) (from_le_bytes-to_le_bytes_4 x (fits 0)) (words-bytes xs (λ k. fits (suc k)))

four_bytes : (a b c d : ℕ) (rest : List ℕ) → ((k : ℕ) → slice_index (a ∷ b ∷ c ∷ d ∷ rest) k < 256)
    → (k : ℕ) → slice_index (a ∷ b ∷ c ∷ d ∷ []) k < 256
four_bytes a b c d rest fits zero = fits 0
four_bytes a b c d rest fits (suc zero) = fits 1
four_bytes a b c d rest fits (suc (suc zero)) = fits 2
four_bytes a b c d rest fits (suc (suc (suc zero))) = fits 3
four_bytes a b c d rest fits (suc (suc (suc (suc k)))) = lit< tt

-- the bytes of the words of bytes, if the bytes make whole words
bytes-words : (bs : List ℕ) → length bs % 4 ≡ 0 → ((k : ℕ) → slice_index bs k < 256) → bytes (words bs) ≡ bs
bytes-words [] whole fits = refl
bytes-words (a ∷ []) whole fits = absurd (omega (arith, whole))
bytes-words (a ∷ b ∷ []) whole fits = absurd (omega (arith, whole))
bytes-words (a ∷ b ∷ c ∷ []) whole fits = absurd (omega (arith, whole))
bytes-words (a ∷ b ∷ c ∷ d ∷ rest) whole fits =
    ap₂ (λ (front : List ℕ) (back : List ℕ). front ++ back)
    (le_bytes_4 (a ∷ b ∷ c ∷ d ∷ []) (from_le_bytes w32 (a ∷ b ∷ c ∷ d ∷ [])) refl (four_bytes a b c d rest fits) refl)
    (bytes-words rest (omega (arith, whole)) (λ k. fits (suc (suc (suc (suc k))))))

-- the state at block 0 is the initial one
pub state_at-first : (key nonce : List ℕ) → length key ≡ 32 → length nonce ≡ 8 → state_at key nonce 0 ≡ initial_state key nonce
unfolding state_at initial_state
state_at-first key nonce key_long nonce_long = rw (words_of_32 key key_long, words_of_8 nonce nonce_long) refl

module _ (key nonce : List ℕ) (n : ℕ) (key_long : length key ≡ 32) (nonce_long : length nonce ≡ 8) where
  pub counter-state_at : counter (state_at key nonce n) ≡ n
  unfolding state_at initial_state
  counter-state_at =
      let long : length (initial_state key nonce) ≡ 16 = rw (words_of_32 key key_long, words_of_8 nonce nonce_long) refl in
      counter-with_counter (initial_state key nonce) n (omega (arith, long))

  pub key-state_at : ((k : ℕ) → slice_index key k < 256) → key_of (state_at key nonce n) ≡ key
  unfolding state_at initial_state key_of
  key-state_at fits =
      let read : key_of (state_at key nonce n) ≡ bytes (words key) = rw (words_of_32 key key_long) refl in
      read ∙ bytes-words key (omega (arith, key_long)) fits

  pub nonce-state_at : ((k : ℕ) → slice_index nonce k < 256) → nonce_of (state_at key nonce n) ≡ nonce
  unfolding state_at initial_state nonce_of
  nonce-state_at fits =
      let read : nonce_of (state_at key nonce n) ≡ bytes (words nonce) =
      rw (words_of_32 key key_long, words_of_8 nonce nonce_long) refl in
      read ∙ bytes-words nonce (omega (arith, nonce_long)) fits

-- block n is n blocks after block 0
pub blocks-state_at : (key nonce : List ℕ) → length key ≡ 32 → length nonce ≡ 8 → (n : ℕ) → n < 2 ^ 64
    → iterate next_state n (state_at key nonce 0) ≡ state_at key nonce n
unfolding state_at
blocks-state_at key nonce key_long nonce_long zero fits = refl
blocks-state_at key nonce key_long nonce_long (suc n) fits =
    let start = state_at key nonce 0 in
    let total : (0 + suc n) % 2 ^ 64 ≡ suc n = omega (arith, fits) in
    chacha_steps (suc n) start
    ∙ ap (λ (c : ℕ). with_counter start ((c + suc n) % 2 ^ 64)) (counter-state_at key nonce 0 key_long nonce_long)
    ∙ ap (with_counter start) total ∙ with_counter-twice (initial_state key nonce) 0 (suc n)

-- a part of a list of words is a list of words
drop-fits : (n : ℕ) (x : List ℕ) → ((k : ℕ) → slice_index x k < 2 ^ 32) → (k : ℕ) → slice_index (drop n x) k < 2 ^ 32
drop-fits n x fits k = omega (arith, get_or-drop n x k 0, fits (n + k))

take-fits : (n : ℕ) (x : List ℕ) → ((k : ℕ) → slice_index x k < 2 ^ 32) → (k : ℕ) → slice_index (take n x) k < 2 ^ 32
take-fits zero x fits k = lit< tt
take-fits (suc n) [] fits k = lit< tt
take-fits (suc n) (a ∷ x) fits zero = fits 0
take-fits (suc n) (a ∷ x) fits (suc k) = take-fits n x (λ j. fits (suc j)) k

-- a state made of these parts
abbrev made_of : List ℕ → List ℕ → List ℕ → ℕ → List ℕ
made_of front key nonce n = with_counter (front ++ key ++ (0 ∷ 0 ∷ []) ++ nonce) n

-- a matrix with its counter set, by its parts
by_parts : (n : ℕ) (x : List ℕ) → length x ≡ 16 → made_of (take 4 x) (slice_range x 4 12) (slice_range x 14 16) n ≡ with_counter x n
by_parts n = sixteen _ (λ a b c d e f g h i j k l m o p q. refl)

-- A matrix that begins with the constants is made up of its key, nonce and counter.
pub parts : (x : List ℕ) → IsMatrix x → take 4 x ≡ constants → state_at (key_of x) (nonce_of x) (counter x) ≡ x
unfolding state_at initial_state key_of nonce_of
parts x matrix begins =
    let key = slice_range x 4 12 in
    let nonce = slice_range x 14 16 in
    let key_is : words (bytes key) ≡ key = words-bytes key (take-fits 8 (drop 4 x) (drop-fits 4 x matrix.words)) in
    let nonce_is : words (bytes nonce) ≡ nonce = words-bytes nonce (take-fits 2 (drop 14 x) (drop-fits 14 x matrix.words)) in
    let whole : (counter x + 0) % 2 ^ 64 ≡ counter x = omega (arith, matrix.words 12, matrix.words 13) in
    ap (λ (k : List ℕ). made_of constants k (words (bytes nonce)) (counter x)) key_is
    ∙ ap (λ (n : List ℕ). made_of constants key n (counter x)) nonce_is
    ∙ ap (λ (front : List ℕ). made_of front key nonce (counter x)) (sym begins)
    ∙ by_parts (counter x) x matrix.sixteen ∙ ap (with_counter x) (sym whole) ∙ sym (chacha_closed 0 x matrix)

-- the bytes of a matrix, and those of its key and nonce
pub key-bytes : (x : List ℕ) → length x ≡ 16 → slice_range (bytes x) 16 48 ≡ key_of x
unfolding key_of
key-bytes = sixteen _ (λ a b c d e f g h i j k l m n o p. refl)

pub nonce-bytes : (x : List ℕ) → length x ≡ 16 → slice_range (bytes x) 56 64 ≡ nonce_of x
unfolding nonce_of
nonce-bytes = sixteen _ (λ a b c d e f g h i j k l m n o p. refl)
