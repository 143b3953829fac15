-- Runs computed by multiplication, after Lemire.
use Rattle.std.proofs.Common.{if◌then◌else◌, nat_lt, is_some, ◌≡◌, ℕ, zero, suc, ◌+◌, ◌-◌, ◌*◌, ◌/◌, ◌%◌, ◌^◌, ◌<◌, ◌≤◌, Bool, true, false, Option}
use Rattle.std.proofs.Common.{Some, None, MatchOption, find, refl, sym, ◌∙◌, ap, inl, inr, arith}
use Rattle.std.specs.List.{range_with_len}
use Rattle.std.proofs.lemmas.Bool.{cases_lt, cases_Bool, and_parts, and_from, ltb-true, ltb-false, leb-true, lt-ltb, le-ltb, le-leb, false_from_ne_true}
use Rattle.std.proofs.lemmas.Nat.{mul-le, pow-add, pow_pos, div-add-mod', div_below, mod_below, div-mul-add, mod-mul-add}
use Rattle.std.proofs.Math.Nat.{add-mod_right, mod_self, mul-mod_left, mul-div-mul_right}
use Rattle.nanorand_core.specs.values.Runs.{IsWordWidth, Names, named, is_in_run, quota, rejected}
use mathlib.Core.Bool.{not}
use Rattle.nanorand_core.proofs.lemmas.ranges.CeilingLemmas.{ceil_le, le_ceil, lt_ceil_add, ceil_add_lt}

-- A word names k, stated by the product word * s. There are m words in all, and t of them are
-- rejected.
pub record HasPart (m s t word k : ℕ) : Type 0 where
  pub below : k < s
  pub from : k * m + t ≤ word * s
  pub to : word * s < k * m + m

module _ (bits size word k : ℕ) (some : 0 < size) where
  shares : quota bits size * size + rejected bits size ≡ 2 ^ bits
  shares = div-add-mod' (2 ^ bits) size

  pub Names-parts : Names bits size word k → HasPart (2 ^ bits) size (rejected bits size) word k
  Names-parts h =
      let x : ℕ = k * 2 ^ bits + rejected bits size in
      let low : x ≤ word * size = ceil_le x size some word h.after_first in
      let high : word * size < x + quota bits size * size = lt_ceil_add x size some word (quota bits size) h.before_end in
      record { below = h.below; from = low; to = omega (arith, high, shares) }

  pub Names-from_parts : HasPart (2 ^ bits) size (rejected bits size) word k → Names bits size word k
  Names-from_parts h =
      let x : ℕ = k * 2 ^ bits + rejected bits size in
      let high : word * size < x + quota bits size * size = omega (arith, h.to, shares) in
      record {
        below = h.below;
        after_first = le_ceil x size some word h.from;
        before_end = ceil_add_lt x size some word (quota bits size) high;
      }

-- a word names the quotient of its product by m, if the remainder is at least t
pub part_kept : (m s t word : ℕ) → 0 < m → 0 < s → word < m → t ≤ word * s % m → HasPart m s t word (word * s / m)
part_kept m s t word full some fits kept =
    let split = div-add-mod' (word * s) m in
    let rest = mod_below (word * s) m full in
    let product : word * s < s * m = omega (arith, mul-le (word + 1) s m s (omega arith) (omega arith)) in
    record {
      below = div_below (word * s) m s full product;
      from = omega (arith, split);
      to = omega (arith, split, rest);
    }

pub part_is : (m s t word k : ℕ) → HasPart m s t word k → (word * s / m ≡ k) × (t ≤ word * s % m)
part_is m s t word k h =
    let low : k * m ≤ word * s = omega (arith, h.from) in
    let r : ℕ = word * s - k * m in
    let split : k * m + r ≡ word * s = omega (arith, low) in
    let rest : r < m = omega (arith, h.to, split) in
    let high : t ≤ r = omega (arith, h.from, split) in
    (rw (← split) (div-mul-add k m r rest), rw (← split, mod-mul-add k m r rest) high)

-- no word names two numbers
pub Names-unique : (bits size word j k : ℕ) → 0 < size → Names bits size word j → Names bits size word k → j ≡ k
Names-unique bits size word j k some h i =
    let one = part_is (2 ^ bits) size (rejected bits size) word j (Names-parts bits size word j some h) in
    let two = part_is (2 ^ bits) size (rejected bits size) word k (Names-parts bits size word k some i) in
    sym one.0 ∙ two.0

-- the test `is_in_run` and the relation `Names` agree
pub in_run-Names : (bits size word k : ℕ) → k < size → is_in_run bits size word k ≡ true → Names bits size word k
in_run-Names bits size word k low h =
    let parts = and_parts _ _ h in
    record { below = low; after_first = leb-true _ _ parts.0; before_end = ltb-true _ _ parts.1 }

pub Names-in_run : (bits size word k : ℕ) → Names bits size word k → is_in_run bits size word k ≡ true
Names-in_run bits size word k h = and_from _ _ (le-leb _ _ h.after_first) (lt-ltb _ _ h.before_end)

-- a search in the numbers from a on
pub find-none : (p : ℕ → Bool) (a n : ℕ) → ((k : ℕ) → a ≤ k → k < a + n → p k ≡ false) → find p (range_with_len a n) ≡ None
find-none p a zero h = refl
find-none p a (suc n) h =
    let here : p a ≡ false = h a (omega arith) (omega arith) in
    let rest : find p (range_with_len (a + 1) n) ≡ None =
    find-none p (a + 1) n (λ k low high. h k (omega arith) (omega arith)) in
    rw here rest

pub find-first : (p : ℕ → Bool) (a n k : ℕ) → a ≤ k → k < a + n → p k ≡ true → ((j : ℕ) → j < k → p j ≡ false) → find p (range_with_len a n) ≡ Some k
find-first p a zero k low high here before = absurd (omega arith)
find-first p a (suc n) k low high here before =
    elim (cases_lt a k) [
      | inl under ↦
          let past : p a ≡ false = before a under in
          rw past (find-first p (a + 1) n k (omega arith) (omega arith) here before)
      | inr over ↦
          let same : a ≡ k = omega arith in
          let there : p a ≡ true = ap p same ∙ here in
          rw there (ap Some same)
    ]

pub find-Some : (p : ℕ → Bool) (a n k : ℕ) → find p (range_with_len a n) ≡ Some k → (k < a + n) × (p k ≡ true)
find-Some p a zero k h = cc
find-Some p a (suc n) k h =
    elim (cases_Bool (p a)) [
      | inl hit ↦
          let found : Some a ≡ Some k = rw hit at h in
          let same : a ≡ k = cc in
          (omega arith, ap p (sym same) ∙ hit)
      | inr miss ↦
          let rest : find p (range_with_len (a + 1) n) ≡ Some k = rw miss at h in
          let found = find-Some p (a + 1) n k rest in
          (omega (arith, found.0), found.1)
    ]

-- `named` gives k if and only if the word names k
pub named-Some : (bits size word k : ℕ) → 0 < size → Names bits size word k → named bits size word ≡ Some k
unfolding named
named-Some bits size word k some h =
    find-first (is_in_run bits size word) 0 size k (omega arith) (omega (arith, h.below)) (Names-in_run bits size word k h)
    (λ j under. false_from_ne_true (is_in_run bits size word j) (λ hit.
    let low : j < size = omega (arith, h.below) in
    let same : j ≡ k = Names-unique bits size word j k some (in_run-Names bits size word j low hit) h in
    omega arith))

pub named-None : (bits size word : ℕ) → ((k : ℕ) → Names bits size word k → ⊥) → named bits size word ≡ None
unfolding named
named-None bits size word h =
    find-none (is_in_run bits size word) 0 size
    (λ k low high. false_from_ne_true (is_in_run bits size word k) (λ hit.
    h k (in_run-Names bits size word k (omega arith) hit)))

pub Some-named : (bits size word k : ℕ) → named bits size word ≡ Some k → Names bits size word k
unfolding named
Some-named bits size word k h =
    let found = find-Some (is_in_run bits size word) 0 size k h in
    in_run-Names bits size word k (omega (arith, found.0)) found.1

-- the test by multiplication: the high half of the product is the number, and the low half decides
-- whether the word is accepted
pub picks : (bits size word : ℕ) → 0 < size → word < 2 ^ bits → rejected bits size ≤ word * size % 2 ^ bits
    → named bits size word ≡ Some (word * size / 2 ^ bits)
picks bits size word some fits kept =
    named-Some bits size word (word * size / 2 ^ bits) some
    (Names-from_parts bits size word (word * size / 2 ^ bits) some
    (part_kept (2 ^ bits) size (rejected bits size) word (pow_pos bits) some fits kept))

pub rejects : (bits size word : ℕ) → 0 < size → word * size % 2 ^ bits < rejected bits size → named bits size word ≡ None
rejects bits size word some low =
    named-None bits size word (λ k h.
    let part = part_is (2 ^ bits) size (rejected bits size) word k (Names-parts bits size word k some h) in
    omega (arith, part.1))

pub None-named : (bits size word : ℕ) → 0 < size → named bits size word ≡ None → (k : ℕ) → Names bits size word k → ⊥
None-named bits size word some none k h = let hit = named-Some bits size word k some h in cc

-- for as many numbers as words, each word names itself
pub names-itself : (bits word : ℕ) → word < 2 ^ bits → named bits (2 ^ bits) word ≡ Some word
names-itself bits word fits =
    let none : rejected bits (2 ^ bits) ≡ 0 = mod_self (2 ^ bits) in
    named-Some bits (2 ^ bits) word word (pow_pos bits)
    (Names-from_parts bits (2 ^ bits) word word (pow_pos bits)
    (record { below = fits; from = rw none (omega arith); to = omega (arith, pow_pos bits) }))

-- a size beyond 64 bits is the number of all words
pub size-is_whole : (bits size : ℕ) → IsWordWidth bits → size ≤ 2 ^ bits → 18446744073709551615 < size → size ≡ 2 ^ bits
size-is_whole bits size width within past =
    elim width [
      | inl is ↦ absurd (let low = rw is at within in omega arith)
      | inr (inl is) ↦ absurd (let low = rw is at within in omega arith)
      | inr (inr (inl is)) ↦ absurd (let low = rw is at within in omega arith)
      | inr (inr (inr is)) ↦ let low = rw is at within in rw is (omega arith)
    ]

-- subtracting `size` from the number of words leaves the number of rejected words unchanged
pub rejected-less : (bits size : ℕ) → size ≤ 2 ^ bits → (2 ^ bits - size) % size ≡ rejected bits size
rejected-less bits size within =
    let split : 2 ^ bits - size + size ≡ 2 ^ bits = omega arith in
    sym (add-mod_right (2 ^ bits - size) size) ∙ ap (λ n. n % size) split

-- the number that a word names, as a relation
module _ (bits size word : ℕ) (some : 0 < size) where
  names_what : (o : Option ℕ) → named bits size word ≡ o → MatchOption o ((k : ℕ) → Names bits size word k → ⊥) (λ k. Names bits size word k)
  names_what None none = None-named bits size word some none
  names_what (Some k) hit = Some-named bits size word k hit

  pub named-Names : MatchOption (named bits size word) ((k : ℕ) → Names bits size word k → ⊥) (λ k. Names bits size word k)
  named-Names = names_what (named bits size word) refl

-- what a product says about its word: rejected, or the number that the word names
abbrev pub judged : ℕ → ℕ → ℕ → Option ℕ
judged bits size product = if nat_lt (product % 2 ^ bits) (rejected bits size) then None else Some (product / 2 ^ bits)

pub named-judged : (bits size word : ℕ) → 0 < size → word < 2 ^ bits → named bits size word ≡ judged bits size (word * size)
named-judged bits size word some fits =
    elim (cases_Bool (nat_lt (word * size % 2 ^ bits) (rejected bits size))) [
      | inl low ↦ rw low (rejects bits size word some (ltb-true _ _ low))
      | inr kept ↦ rw kept (picks bits size word some fits (ltb-false _ _ kept))
    ]

pub judged-low : (bits size product : ℕ) → nat_lt (product % 2 ^ bits) (rejected bits size) ≡ true → judged bits size product ≡ None
judged-low bits size product low = rw low refl

-- a word is accepted if the low half of its product is at least the size, since fewer words are
-- rejected
pub judged-high : (bits size product : ℕ) → 0 < size → nat_lt (product % 2 ^ bits) size ≡ false → judged bits size product ≡ Some (product / 2 ^ bits)
judged-high bits size product some high =
    let fewer = mod_below (2 ^ bits) size some in
    let kept = le-ltb (product % 2 ^ bits) (rejected bits size) (omega (arith, fewer, ltb-false _ _ high)) in
    rw kept refl

-- a word is accepted if the low half of its product is at least an upper bound of the number of
-- rejected words
pub judged-past : (bits size limit product : ℕ) → rejected bits size ≤ limit → nat_lt (product % 2 ^ bits) limit ≡ false
    → judged bits size product ≡ Some (product / 2 ^ bits)
judged-past bits size limit product most high =
    let kept = le-ltb (product % 2 ^ bits) (rejected bits size) (omega (arith, most, ltb-false _ _ high)) in
    rw kept refl

pub judged-is_some : (bits size product : ℕ) → is_some (judged bits size product) ≡ not (nat_lt (product % 2 ^ bits) (rejected bits size))
judged-is_some bits size product =
    elim (cases_Bool (nat_lt (product % 2 ^ bits) (rejected bits size))) [
      | inl low ↦ rw low refl
      | inr kept ↦ rw kept refl
    ]

-- a power of two divides the number of words, and each word names its top bits
pub power-divides : (bits k : ℕ) → k ≤ bits → rejected bits (2 ^ k) ≡ 0
power-divides bits k within =
    let sum : bits ≡ bits - k + k = omega (arith, within) in
    let split : 2 ^ bits ≡ 2 ^ (bits - k) * 2 ^ k = ap (λ (n : ℕ). 2 ^ n) sum ∙ pow-add 2 (bits - k) k in
    ap (λ (n : ℕ). n % 2 ^ k) split ∙ mul-mod_left (2 ^ (bits - k)) (2 ^ k)

pub named-power : (bits k word : ℕ) → k ≤ bits → word < 2 ^ bits → named bits (2 ^ k) word ≡ Some (word / 2 ^ (bits - k))
named-power bits k word within fits =
    let sum : bits ≡ bits - k + k = omega (arith, within) in
    let split : 2 ^ bits ≡ 2 ^ (bits - k) * 2 ^ k = ap (λ (n : ℕ). 2 ^ n) sum ∙ pow-add 2 (bits - k) k in
    let top = ap (λ (n : ℕ). word * 2 ^ k / n) split ∙ mul-div-mul_right word (2 ^ (bits - k)) (pow_pos k) in
    let none = power-divides bits k within in
    picks bits (2 ^ k) word (pow_pos k) fits (omega (arith, none)) ∙ ap Some top
