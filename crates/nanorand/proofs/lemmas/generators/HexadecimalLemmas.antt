-- The hexadecimal digits of a 128-bit number: those of its high half, and sixteen digits of its low
-- half.
use Rattle.std.proofs.Common.{◌≡◌, ℕ, zero, suc, ◌+◌, ◌-◌, ◌*◌, ◌/◌, ◌%◌, ◌^◌, ◌<◌, ◌≤◌, false, List, [], ◌∷◌, ◌++◌}
use Rattle.std.proofs.Common.{length, replicate, refl, sym, ◌∙◌, ap, subst, inl, inr, lit<, arith}
use Rattle.std.proofs.lemmas.Bool.{cases_lt, ne_eqb}
use Rattle.std.proofs.lemmas.List.{append_assoc, append-nil, length-append, replicate-append-replicate}
use Rattle.std.proofs.Math.Nat.{div-eq_of_lt, sub-zero, pow-suc, mul_assoc, mul-lt-mul_of_pos_right}
use Rattle.std.specs.Fmt.{digits, digits_onto, digit_glyph, char_count, format_spec, padded_integral}
use Rattle.nanorand.specs.generators.DebugTexts.{hexadecimal}

-- the last digit
abbrev last : ℕ → ℕ
last n = digit_glyph false (n % 16)

-- at most k digits of n, in front of other digits
abbrev onto : ℕ → ℕ → List ℕ → List ℕ
onto k n others = digits_onto k 16 false n others

one_digit : (k n : ℕ) (others : List ℕ) → n < 16 → onto (suc k) n others ≡ last n ∷ others
one_digit k n others small = let none : n / 16 ≡ 0 = div-eq_of_lt small in rw none refl

more_digits : (k n : ℕ) (others : List ℕ) → 16 ≤ n → onto (suc k) n others ≡ onto k (n / 16) (last n ∷ others)
more_digits k n others large = rw (ne_eqb (n / 16) 0 (λ none. omega (arith, none, large))) refl

in_front : (k n : ℕ) (others : List ℕ) → onto k n others ≡ onto k n [] ++ others
in_front zero n others = refl
in_front (suc k) n others =
    elim (cases_lt n 16) [
      | inl small ↦ one_digit k n others small ∙ sym (ap (λ ds. ds ++ others) (one_digit k n [] small))
      | inr large ↦
          more_digits k n others large ∙ in_front k (n / 16) (last n ∷ others) ∙
          sym (append_assoc (onto k (n / 16) []) (last n ∷ []) others) ∙
          sym (ap (λ ds. ds ++ others) (more_digits k n [] large ∙ in_front k (n / 16) (last n ∷ [])))
    ]

-- allowing one more digit changes nothing
enough : (k n : ℕ) (others : List ℕ) → n < 16 ^ suc k → onto (suc k) n others ≡ onto (suc (suc k)) n others
enough zero n others small =
    let one : n < 16 = omega (arith, small) in one_digit 0 n others one ∙ sym (one_digit 1 n others one)
enough (suc k) n others small =
    elim (cases_lt n 16) [
      | inl one ↦ one_digit (suc k) n others one ∙ sym (one_digit (suc (suc k)) n others one)
      | inr large ↦
          let below : n / 16 < 16 ^ suc k = omega (arith, pow-suc 16 (suc k), small) in
          more_digits (suc k) n others large ∙ enough k (n / 16) (last n ∷ others) below ∙
          sym (more_digits (suc (suc k)) n others large)
    ]

hexadecimal_of_one : (n : ℕ) → n < 16 → hexadecimal n ≡ last n ∷ []
unfolding digits
hexadecimal_of_one n small = one_digit 63 n [] small

hexadecimal_of_more : (n : ℕ) → 16 ≤ n → n < 16 ^ 64 → hexadecimal n ≡ hexadecimal (n / 16) ++ (last n ∷ [])
unfolding digits
hexadecimal_of_more n large small =
    let below : n / 16 < 16 ^ 63 = omega (arith, small) in
    more_digits 63 n [] large ∙ in_front 63 (n / 16) (last n ∷ []) ∙
    ap (λ ds. ds ++ (last n ∷ [])) (enough 62 (n / 16) [] below)

-- the last k digits, with leading zeros
last_digits : ℕ → ℕ → List ℕ
last_digits zero n = []
last_digits (suc k) n = last_digits k (n / 16) ++ (last n ∷ [])

power_positive : (k : ℕ) → 0 < 16 ^ k
power_positive zero = lit< tt
power_positive (suc k) = omega (arith, pow-suc 16 k, power_positive k)

-- the digits of a number whose last k digits are those of `low`
joined : (k high low : ℕ) → 0 < high → low < 16 ^ k → high * 16 ^ k + low < 16 ^ 64
    → hexadecimal (high * 16 ^ k + low) ≡ hexadecimal high ++ last_digits k low
unfolding last_digits
joined zero high low some below within =
    let same : high * 16 ^ 0 + low ≡ high = omega (arith, below) in
    ap hexadecimal same ∙ sym (append-nil (hexadecimal high))
joined (suc k) high low some below within =
    let n = high * 16 ^ suc k + low in
    let tens : high * 16 ^ suc k ≡ high * 16 ^ k * 16 = ap (λ p. high * p) (pow-suc 16 k) ∙ sym (mul_assoc high (16 ^ k) 16) in
    let positive : 0 < high * 16 ^ k = omega (arith, mul-lt-mul_of_pos_right some (power_positive k)) in
    let large : 16 ≤ n = omega (arith, tens, positive) in
    let front : n / 16 ≡ high * 16 ^ k + low / 16 = omega (arith, tens) in
    let end : n % 16 ≡ low % 16 = omega (arith, tens) in
    let low_below : low / 16 < 16 ^ k = omega (arith, pow-suc 16 k, below) in
    let front_within : high * 16 ^ k + low / 16 < 16 ^ 64 = omega (arith, tens, within) in
    hexadecimal_of_more n large within ∙
    ap (λ ds. ds ++ (last n ∷ [])) (ap hexadecimal front ∙ joined k high (low / 16) some low_below front_within) ∙
    append_assoc (hexadecimal high) (last_digits k (low / 16)) (last n ∷ []) ∙
    ap (λ d. hexadecimal high ++ (last_digits k (low / 16) ++ (digit_glyph false d ∷ []))) end

-- padding with zeros to k digits gives the last k digits
padded : (k n : ℕ) → n < 16 ^ suc k → n < 16 ^ 64
    → replicate (suc k - length (hexadecimal n)) 48 ++ hexadecimal n ≡ last_digits (suc k) n
unfolding last_digits
padded zero n below within =
    let one : n < 16 = omega (arith, below) in rw (hexadecimal_of_one n one) refl
padded (suc k) n below within =
    elim (cases_lt n 16) [
      | inl one ↦
          let none : n / 16 ≡ 0 = div-eq_of_lt one in
          let nought : hexadecimal (n / 16) ≡ 48 ∷ [] = ap hexadecimal none ∙ hexadecimal_of_one 0 (lit< tt) in
          let front = padded k (n / 16) (omega (arith, pow-suc 16 (suc k), below)) (omega (arith, within)) in
          let P : List ℕ → Type 0 = λ ds. replicate (suc k - length ds) 48 ++ ds ≡ last_digits (suc k) (n / 16) in
          let count : suc (suc k) - 1 ≡ suc k - 1 + 1 = omega arith in
          rw (hexadecimal_of_one n one)
          (ap (λ ds. ds ++ (last n ∷ []))
          (ap (λ m. replicate m 48) count ∙ sym (replicate-append-replicate (suc k - 1) 1 48) ∙ subst P nought front))
      | inr large ↦
          let front = hexadecimal (n / 16) in
          let missing : suc (suc k) - length (front ++ (last n ∷ [])) ≡ suc k - length front =
          omega (arith, length-append front (last n ∷ [])) in
          rw (hexadecimal_of_more n large within, missing)
          (sym (append_assoc (replicate (suc k - length front) 48) front (last n ∷ [])) ∙
          ap (λ ds. ds ++ (last n ∷ [])) (padded k (n / 16) (omega (arith, pow-suc 16 (suc k), below)) (omega (arith, within))))
    ]

pub hexadecimal_words : (high low : ℕ) → 0 < high → high < 2 ^ 64 → low < 2 ^ 64
    → hexadecimal (high * 2 ^ 64 + low)
    ≡ hexadecimal high ++ padded_integral (format_spec 32 0 4 16 (2 ^ 64 - 1)) false [] (hexadecimal low)
unfolding padded_integral char_count
hexadecimal_words high low some high_fits low_fits =
    let zeros = padded 15 low (omega (arith, low_fits)) (omega (arith, low_fits)) in
    let digits = joined 16 high low some (omega (arith, low_fits)) (omega (arith, high_fits, low_fits)) in
    digits ∙ ap (λ ds. hexadecimal high ++ ds)
    (sym zeros ∙ rw (sub-zero (16 - length (hexadecimal low)), sub-zero (16 - length (hexadecimal low)), append-nil (hexadecimal low)) refl)
