-- Lemmas about blocks of ChaCha and many draws. Not needed to understand the contracts: this file
-- is in specs/ only because laws of impls cite its lemmas.
use Rattle.std.proofs.Common.{◌≡◌, ◌≢◌, ℕ, zero, suc, ◌+◌, ◌/◌, ◌%◌, ◌^◌, ◌<◌, ◌≤◌, ◌↔◌, List, [], ◌∷◌, length, take}
use Rattle.std.proofs.Common.{drop, slice_index, slice_range, set, refl, sym, ap, ◌∙◌, arith, add-one, ⊎_elim}
use Rattle.std.proofs.Common.{length-set, get_or-set_other}
use Rattle.std.proofs.lemmas.Bool.{cases_lt}
use Rattle.std.proofs.lemmas.List.{drop-set-add, drop-set-lt, get_or-set_same, get_or_past, set-set, set_comm, set_past, set-get_or, take-set-le}
use Rattle.std.proofs.lemmas.Nat.Gcd.{mod-eq-zero_of_dvd}
use Rattle.std.specs.Fn.{iterate}
use Rattle.std.specs.Int.{◌∣◌}
use Rattle.nanorand_core.specs.generators.Cycles.{IsPeriod, DrawsLeave, OneMoreDraw, DrawsAdd}
use Rattle.nanorand_core.specs.support.IterateLemmas.{draws_leave, draws_add}
use Rattle.nanorand.specs.generators.ChaChaRounds.{block, IsMatrix}
use Rattle.nanorand.specs.generators.ChaCha.{bytes, counter, with_counter, key_of, nonce_of, advanced, next_state, chacha_block, chacha_after}

-- a block has 64 bytes, whatever list the state is
pub length-chacha_block : (R : ℕ) (x : List ℕ) → length (chacha_block R x) ≡ 64
unfolding block
length-chacha_block R x = refl

-- setting the counter twice keeps the second one
pub with_counter-twice : (x : List ℕ) (m n : ℕ) → with_counter (with_counter x m) n ≡ with_counter x n
with_counter-twice x m n =
    let low = n % 2 ^ 32 in
    let high = m / 2 ^ 32 in
    ap (λ (y : List ℕ). set y 13 (n / 2 ^ 32))
    (set_comm (set x 12 (m % 2 ^ 32)) 13 12 high low (omega arith)
    ∙ ap (λ (y : List ℕ). set y 13 high) (set-set x 12 (m % 2 ^ 32) low))
    ∙ set-set (set x 12 low) 13 high (n / 2 ^ 32)

-- a counter that was set is read back, if the list has both of its words
pub counter-with_counter : (x : List ℕ) (n : ℕ) → 13 < length x → counter (with_counter x n) ≡ n
counter-with_counter x n long =
    let low_there : 12 < length x = omega arith in
    let high_there : 13 < length (set x 12 (n % 2 ^ 32)) = omega (arith, length-set x 12 (n % 2 ^ 32)) in
    rw (
      get_or-set_other (set x 12 (n % 2 ^ 32)) 13 12 (n / 2 ^ 32) 0 (omega arith),
      get_or-set_same x 12 (n % 2 ^ 32) 0 low_there,
      get_or-set_same (set x 12 (n % 2 ^ 32)) 13 (n / 2 ^ 32) 0 high_there,
    ) (omega arith)

-- a list of at most thirteen words has no high half of the counter, and one of at most twelve has
-- no counter at all
with_counter-short : (x : List ℕ) (n : ℕ) → length x ≤ 13 → with_counter x n ≡ set x 12 (n % 2 ^ 32)
with_counter-short x n short =
    set_past (set x 12 (n % 2 ^ 32)) 13 (n / 2 ^ 32) (omega (arith, length-set x 12 (n % 2 ^ 32)))

with_counter-none : (x : List ℕ) (n : ℕ) → length x ≤ 12 → with_counter x n ≡ x
with_counter-none x n none = with_counter-short x n (omega arith) ∙ set_past x 12 (n % 2 ^ 32) none

-- n blocks after m blocks are m + n blocks
advanced-twice : (m n : ℕ) (x : List ℕ) → advanced n (advanced m x) ≡ advanced (m + n) x
advanced-twice m n x =
    with_counter-twice x first ((counter (with_counter x first) + n) % 2 ^ 64)
    ∙ ⊎_elim whole (λ short. ⊎_elim (half short) none (cases_lt 12 (length x))) (cases_lt 13 (length x))
  where
    first : ℕ
    first = (counter x + m) % 2 ^ 64

    Same : Type 0
    Same = with_counter x ((counter (with_counter x first) + n) % 2 ^ 64) ≡ advanced (m + n) x

    whole : 13 < length x → Same
    whole long =
        let total : (first + n) % 2 ^ 64 ≡ (counter x + (m + n)) % 2 ^ 64 = omega arith in
        ap (λ (c : ℕ). with_counter x ((c + n) % 2 ^ 64)) (counter-with_counter x first long) ∙ ap (with_counter x) total

    half : length x ≤ 13 → 12 < length x → Same
    half short there =
        let read : counter (with_counter x first) ≡ first % 2 ^ 32 =
        ap counter (with_counter-short x first short)
        ∙ rw (
          get_or-set_same x 12 (first % 2 ^ 32) 0 there,
          get_or_past (set x 12 (first % 2 ^ 32)) 13 0 (omega (arith, length-set x 12 (first % 2 ^ 32))),
        ) (omega arith) in
        let total : (first % 2 ^ 32 + n) % 2 ^ 64 % 2 ^ 32 ≡ (counter x + (m + n)) % 2 ^ 64 % 2 ^ 32 = omega arith in
        ap (λ (c : ℕ). with_counter x ((c + n) % 2 ^ 64)) read
        ∙ with_counter-short x _ short ∙ ap (set x 12) total ∙ sym (with_counter-short x _ short)

    none : length x ≤ 12 → Same
    none short = with_counter-none x _ short ∙ sym (with_counter-none x _ short)

pub chacha_none : (x : List ℕ) → chacha_after 0 x ≡ x
chacha_none x = refl

pub chacha_more : OneMoreDraw next_state chacha_after
chacha_more zero x = refl
chacha_more (suc n) x =
    ap (λ (k : ℕ). chacha_after k x) (add-one (suc n)) ∙ ap (λ (k : ℕ). advanced k x) (sym (add-one (suc n)))
    ∙ sym (advanced-twice (suc n) 1 x)

pub chacha_steps : DrawsLeave next_state chacha_after
chacha_steps = draws_leave next_state chacha_after chacha_none chacha_more

pub chacha_adds : DrawsAdd chacha_after
chacha_adds = draws_add next_state chacha_after chacha_none chacha_more

-- draws change only the counter
pub with_counter-after : (n m : ℕ) (x : List ℕ) → with_counter (chacha_after n x) m ≡ with_counter x m
with_counter-after zero m x = refl
with_counter-after (suc n) m x = with_counter-twice x _ m

-- setting the counter of a matrix to its own value changes nothing
with_counter-same : (x : List ℕ) → IsMatrix x → with_counter x (counter x % 2 ^ 64) ≡ x
with_counter-same x matrix =
    let low : slice_index x 12 < 2 ^ 32 = matrix.words 12 in
    let high : slice_index x 13 < 2 ^ 32 = matrix.words 13 in
    let low_is : counter x % 2 ^ 64 % 2 ^ 32 ≡ slice_index x 12 = omega arith in
    let high_is : counter x % 2 ^ 64 / 2 ^ 32 ≡ slice_index x 13 = omega arith in
    rw (low_is, high_is, set-get_or x 12 0) (set-get_or x 13 0)

-- from a matrix, the state after n draws is the closed form
pub chacha_closed : (n : ℕ) (x : List ℕ) → IsMatrix x → chacha_after n x ≡ advanced n x
chacha_closed zero x matrix =
    let none : counter x ≡ counter x + 0 = omega arith in
    sym (with_counter-same x matrix) ∙ ap (λ (c : ℕ). with_counter x (c % 2 ^ 64)) none
chacha_closed (suc n) x matrix = refl

pub chacha_counts : (n : ℕ) (x : List ℕ) → IsMatrix x → counter (chacha_after n x) ≡ (counter x + n) % 2 ^ 64
chacha_counts n x matrix =
    ap counter (chacha_closed n x matrix)
    ∙ counter-with_counter x ((counter x + n) % 2 ^ 64) (omega (arith, matrix.sixteen))

pub chacha_keeps : (n k : ℕ) (x : List ℕ) → k ≢ 12 → k ≢ 13 → slice_index (chacha_after n x) k ≡ slice_index x k
chacha_keeps zero k x low high = refl
chacha_keeps (suc n) k x low high = rw (get_or-set_other, get_or-set_other) refl

-- setting the words 12 and 13 changes neither the words before them nor those after them
key-set : (x : List ℕ) (low high : ℕ) → slice_range (set (set x 12 low) 13 high) 4 12 ≡ slice_range x 4 12
key-set x low high =
    ap (take 8) (drop-set-add 4 (set x 12 low) 9 high)
    ∙ take-set-le 8 (drop 4 (set x 12 low)) 9 high (omega arith)
    ∙ ap (take 8) (drop-set-add 4 x 8 low) ∙ take-set-le 8 (drop 4 x) 8 low (omega arith)

nonce-set : (x : List ℕ) (low high : ℕ) → slice_range (set (set x 12 low) 13 high) 14 16 ≡ slice_range x 14 16
nonce-set x low high =
    ap (take 2) (drop-set-lt 14 (set x 12 low) 13 high (omega arith) ∙ drop-set-lt 14 x 12 low (omega arith))

-- draws keep the key and the nonce
pub chacha_key : (n : ℕ) (x : List ℕ) → key_of (chacha_after n x) ≡ key_of x
unfolding key_of
chacha_key zero x = refl
chacha_key (suc n) x = ap bytes (key-set x _ _)

pub chacha_nonce : (n : ℕ) (x : List ℕ) → nonce_of (chacha_after n x) ≡ nonce_of x
unfolding nonce_of
chacha_nonce zero x = refl
chacha_nonce (suc n) x = ap bytes (nonce-set x _ _)

-- replacing one element by a 32-bit word keeps all elements below 2^32
words-set : (x : List ℕ) (i word : ℕ) → ((k : ℕ) → slice_index x k < 2 ^ 32) → word < 2 ^ 32
    → (k : ℕ) → slice_index (set x i word) k < 2 ^ 32
words-set [] i word words fits k = words k
words-set (a ∷ x) zero word words fits zero = fits
words-set (a ∷ x) zero word words fits (suc k) = words (suc k)
words-set (a ∷ x) (suc i) word words fits zero = words zero
words-set (a ∷ x) (suc i) word words fits (suc k) = words-set x i word (λ j. words (suc j)) fits k

-- draws lead from a matrix to a matrix
pub chacha_matrix : (n : ℕ) (x : List ℕ) → IsMatrix x → IsMatrix (chacha_after n x)
chacha_matrix zero x matrix = matrix
chacha_matrix (suc n) x matrix =
    let c = (counter x + suc n) % 2 ^ 64 in
    let low = set x 12 (c % 2 ^ 32) in
    record {
      sixteen = length-set low 13 (c / 2 ^ 32) ∙ length-set x 12 (c % 2 ^ 32) ∙ matrix.sixteen;
      words = words-set low 13 (c / 2 ^ 32) (words-set x 12 (c % 2 ^ 32) matrix.words (omega arith)) (omega arith);
    }

-- block n is the block of the state with n added to the counter
pub chacha_blocks : (R n : ℕ) (x : List ℕ) → IsMatrix x
    → chacha_block R (iterate next_state n x) ≡ chacha_block R (advanced n x)
chacha_blocks R n x matrix = ap (chacha_block R) (chacha_steps n x ∙ chacha_closed n x matrix)

-- i draws and j draws lead to the same state if and only if i and j agree modulo 2^64
pub chacha_agree : (i j : ℕ) (x : List ℕ) → IsMatrix x → (chacha_after i x ≡ chacha_after j x) ↔ (i % 2 ^ 64 ≡ j % 2 ^ 64)
chacha_agree i j x matrix = (
  λ same.
      let counts : (counter x + i) % 2 ^ 64 ≡ (counter x + j) % 2 ^ 64 =
      sym (chacha_counts i x matrix) ∙ ap counter same ∙ chacha_counts j x matrix in
      omega (arith, counts),
  λ same.
      let counts : (counter x + i) % 2 ^ 64 ≡ (counter x + j) % 2 ^ 64 = omega arith in
      chacha_closed i x matrix ∙ ap (with_counter x) counts ∙ sym (chacha_closed j x matrix),
)

pub chacha_periods : (R d : ℕ) (x : List ℕ) → IsMatrix x → 2 ^ 64 ∣ d → IsPeriod next_state (chacha_block R) x d
chacha_periods R d x matrix divides n =
    let whole : d % 2 ^ 64 ≡ 0 % 2 ^ 64 = mod-eq-zero_of_dvd (2 ^ 64) divides in
    let back : iterate next_state d x ≡ x = chacha_steps d x ∙ (chacha_agree d 0 x matrix).1 whole in
    ap (λ (y : List ℕ). chacha_block R (iterate next_state n y)) back
