-- The steps of a quarter round and their inverses.
use Rattle.std.proofs.Common.{◌≡◌, ℕ, ◌+◌, ◌-◌, ◌*◌, ◌/◌, ◌%◌, ◌^◌, ◌<◌, bit_or, bit_xor, arith, ap, add_comm, refl, ◌∙◌}
use Rattle.std.specs.Int.{w32, rotate_left, rotate_right}
use Rattle.std.specs.Int.Bits.{xor_assoc, xor_self, xor_zero_r}
use Rattle.std.proofs.lemmas.Nat.{or_comm, or_shifted, or_of_32, xor_of_32, mod-pow-add, shl-shr, pow-add, mul-add-lt}
use Rattle.std.proofs.lemmas.Nat.{shr_below, shr_le, shr_high, mod_low, shr_split, mod_below, pow_pos}
use Rattle.std.proofs.Math.Nat.{mul-mod_left}
use Rattle.nanorand.specs.generators.ChaChaRounds.{add, xor_rotate, quarter_round}
use Rattle.nanorand.specs.support.ChaChaInverse.{subtract, rotate_xor}

-- a rotation of a number of k + j bits by k bits to the left: the low j bits move above the others
abbrev turned : ℕ → ℕ → ℕ → ℕ
turned k j n = n % 2 ^ j * 2 ^ k + n / 2 ^ j

turned_back : (k j n : ℕ) → n < 2 ^ (k + j) → turned j k (turned k j n) ≡ n
turned_back k j n fits =
    let high : n / 2 ^ j < 2 ^ k = shr_below n k j fits in
    rw (mod_low (n % 2 ^ j) k (n / 2 ^ j) high, shr_high (n % 2 ^ j) k (n / 2 ^ j) high) (shr_split n j)

-- two shifts and an or make that rotation
or_turned : (k j n : ℕ) → n < 2 ^ (k + j) → bit_or (n * 2 ^ k % 2 ^ (j + k)) (n / 2 ^ j) ≡ turned k j n
or_turned k j n fits =
    let none : n * 2 ^ k % 2 ^ k ≡ 0 = mul-mod_left n (2 ^ k) in
    let shifted : n * 2 ^ k % 2 ^ (j + k) ≡ n % 2 ^ j * 2 ^ k =
    rw (mod-pow-add (n * 2 ^ k) j k, shl-shr n k, none) (omega arith) in
    rw shifted (or_shifted (n % 2 ^ j) k (n / 2 ^ j) (shr_below n k j fits))

turned_fits : (k j n : ℕ) → n < 2 ^ (k + j) → turned k j n < 2 ^ (j + k)
turned_fits k j n fits =
    let low : n % 2 ^ j < 2 ^ j = mod_below n (2 ^ j) (pow_pos j) in
    rw (add_comm j k, pow-add 2 k j) (mul-add-lt (n % 2 ^ j) (2 ^ k) (n / 2 ^ j) (2 ^ j) low (shr_below n k j fits))

-- in k + j bits, the rotation by k bits to the left, made from shifts, and the one by k bits to the
-- right
abbrev left : ℕ → ℕ → ℕ → ℕ
left k j n = bit_or (n * 2 ^ k % 2 ^ (j + k)) (n / 2 ^ j)

abbrev right : ℕ → ℕ → ℕ → ℕ
right k j n = bit_or (n / 2 ^ k) (n * 2 ^ j % 2 ^ (k + j))

right_turned : (k j n : ℕ) → n < 2 ^ (j + k) → right k j n ≡ turned j k n
right_turned k j n fits = or_comm (n / 2 ^ k) (n * 2 ^ j % 2 ^ (k + j)) ∙ or_turned j k n fits

right_left : (k j n : ℕ) → n < 2 ^ (k + j) → right k j (left k j n) ≡ n
right_left k j n fits =
    ap (right k j) (or_turned k j n fits)
    ∙ right_turned k j (turned k j n) (turned_fits k j n fits)
    ∙ turned_back k j n fits

left_right : (k j n : ℕ) → n < 2 ^ (j + k) → left k j (right k j n) ≡ n
left_right k j n fits =
    ap (left k j) (right_turned k j n fits)
    ∙ or_turned k j (turned j k n) (turned_fits j k n fits)
    ∙ turned_back j k n fits

-- xor with the same number twice changes nothing
xor_again : (d a : ℕ) → bit_xor (bit_xor d a) a ≡ d
xor_again d a = xor_assoc d a a ∙ ap (λ x. bit_xor d x) (xor_self a) ∙ xor_zero_r d

-- subtracting undoes adding, modulo 2 ^ 32
pub subtract-add : (a b : ℕ) → a < 2 ^ 32 → b < 2 ^ 32 → subtract (add a b) b ≡ a
subtract-add a b fits_a fits_b = omega arith

pub add-subtract : (a b : ℕ) → a < 2 ^ 32 → b < 2 ^ 32 → add (subtract a b) b ≡ a
add-subtract a b fits_a fits_b = omega arith

-- the four rotations of a quarter round
pub data IsTurn : ℕ → Type 0 where
  by_16 : IsTurn 16
  by_12 : IsTurn 12
  by_8 : IsTurn 8
  by_7 : IsTurn 7

turned_right_left : (m k : ℕ) → IsTurn k → m < 2 ^ 32 → rotate_right w32 (rotate_left w32 m k) k ≡ m
turned_right_left m _ by_16 h = right_left 16 16 m h
turned_right_left m _ by_12 h = right_left 12 20 m h
turned_right_left m _ by_8 h = right_left 8 24 m h
turned_right_left m _ by_7 h = right_left 7 25 m h

turned_left_right : (m k : ℕ) → IsTurn k → m < 2 ^ 32 → rotate_left w32 (rotate_right w32 m k) k ≡ m
turned_left_right m _ by_16 h = left_right 16 16 m h
turned_left_right m _ by_12 h = left_right 12 20 m h
turned_left_right m _ by_8 h = left_right 8 24 m h
turned_left_right m _ by_7 h = left_right 7 25 m h

pub rotate_xor-xor_rotate : (d a n : ℕ) → IsTurn n → d < 2 ^ 32 → a < 2 ^ 32 → rotate_xor (xor_rotate d a n) a n ≡ d
rotate_xor-xor_rotate d a n turn fits_d fits_a =
    ap (λ x. bit_xor x a) (turned_right_left (bit_xor d a) n turn (xor_of_32 d a fits_d fits_a)) ∙ xor_again d a

pub xor_rotate-rotate_xor : (d a n : ℕ) → IsTurn n → d < 2 ^ 32 → xor_rotate (rotate_xor d a n) a n ≡ d
xor_rotate-rotate_xor d a n turn fits_d =
    ap (λ x. rotate_left w32 x n) (xor_again (rotate_right w32 d n) a) ∙ turned_left_right d n turn fits_d

rotate_left-lt : (m k : ℕ) → m < 2 ^ 32 → rotate_left w32 m k < 2 ^ 32
rotate_left-lt m k h =
    or_of_32 (m * 2 ^ (k % 32) % 2 ^ 32) (m / 2 ^ ((32 - k % 32) % 32)) (omega arith)
    (omega (arith, shr_le m ((32 - k % 32) % 32)))

rotate_right-lt : (m k : ℕ) → m < 2 ^ 32 → rotate_right w32 m k < 2 ^ 32
rotate_right-lt m k h =
    or_of_32 (m / 2 ^ (k % 32)) (m * 2 ^ ((32 - k % 32) % 32) % 2 ^ 32)
    (omega (arith, shr_le m (k % 32))) (omega arith)

pub xor_rotate-lt : (d a n : ℕ) → d < 2 ^ 32 → a < 2 ^ 32 → xor_rotate d a n < 2 ^ 32
xor_rotate-lt d a n fits_d fits_a = rotate_left-lt (bit_xor d a) n (xor_of_32 d a fits_d fits_a)

pub rotate_xor-lt : (d a n : ℕ) → d < 2 ^ 32 → a < 2 ^ 32 → rotate_xor d a n < 2 ^ 32
rotate_xor-lt d a n fits_d fits_a = xor_of_32 (rotate_right w32 d n) a (rotate_right-lt d n fits_d) fits_a

pub add-lt : (a b : ℕ) → add a b < 2 ^ 32
add-lt a b = omega arith

pub subtract-lt : (a b : ℕ) → subtract a b < 2 ^ 32
subtract-lt a b = omega arith

-- the eight steps of a quarter round, one after another
pub quarter_made : (a b c d : ℕ) {a1 d1 c1 b1 a2 d2 c2 b2 : ℕ}
    → a1 ≡ add a b → d1 ≡ xor_rotate d a1 16 → c1 ≡ add c d1 → b1 ≡ xor_rotate b c1 12
    → a2 ≡ add a1 b1 → d2 ≡ xor_rotate d1 a2 8 → c2 ≡ add c1 d2 → b2 ≡ xor_rotate b1 c2 7
    → (a2, b2, c2, d2) ≡ quarter_round (a, b, c, d)
unfolding quarter_round
quarter_made a b c d first_a first_d first_c first_b second_a second_d second_c second_b =
    rw (second_b, second_c, second_d, second_a, first_b, first_c, first_d, first_a) refl
