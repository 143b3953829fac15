-- The bytes of two items are swapped one after another, which swaps the items.
use Rattle.std.proofs.Common.{◌≡◌, ◌≢◌, ℕ, ◌+◌, ◌-◌, ◌*◌, ◌/◌, ◌<◌, ◌≤◌, List, [], length, get_or, drop, swap, inl, inr, refl, sym, ◌∙◌, ap, arith}
use Rattle.std.proofs.lemmas.Bool.{cases_eq, cases_lt}
use Rattle.std.proofs.lemmas.List.{length-take, length-drop, get_or-take, get_or-drop, ext_get_or}
use Rattle.std.proofs.lemmas.List.Edits.{length-swap, swapped_from_swap}
use Rattle.std.proofs.lemmas.List.FromFn.{length-map-range_with_len, get_or-map-range_with_len}
use native.Mathlib.Nat.{div-mul-le_self, mul-le-mul_right}
use Rattle.nanorand_calls.specs.Items.{item_at, items_of}

module _ (size : ℕ) (bytes : List ℕ) where
  pub length-items_of : length (items_of size bytes) ≡ length bytes / size
  length-items_of = length-map-range_with_len (item_at size bytes) 0 (length bytes / size)

  get_or-items_of : (i : ℕ) (d : List ℕ) → i < length bytes / size → get_or (items_of size bytes) i d ≡ item_at size bytes i
  get_or-items_of i d low = get_or-map-range_with_len (item_at size bytes) 0 (length bytes / size) i i d low (omega arith)

-- The items before a later item end before it begins.
pub before-item : (size i j : ℕ) → i < j → i * size + size ≤ j * size
before-item size i j low =
    let next : (i + 1) * size ≤ j * size = mul-le-mul_right size (omega arith) in omega (arith, next)

-- An item ends within the whole items.
pub item-within : (size len i : ℕ) → i < len / size → i * size + size ≤ len / size * size
item-within size len i low = before-item size i (len / size) low

pub whole-within : (size len : ℕ) → len / size * size ≤ len
whole-within size len = div-mul-le_self len size

module _ (size : ℕ) (bytes : List ℕ) (i : ℕ) where
  part : i * size + size - i * size ≡ size
  part = omega arith

  length-item_at : i < length bytes / size → length (item_at size bytes i) ≡ size
  length-item_at low =
      let end = item-within size (length bytes) i low in
      let whole = whole-within size (length bytes) in
      rw (part, length-take, length-drop) (omega (arith, end, whole))

  get_or-item_at : (k d : ℕ) → k < size → get_or (item_at size bytes i) k d ≡ get_or bytes (i * size + k) d
  get_or-item_at k d low = rw part (get_or-take size (drop (i * size) bytes) k d low ∙ get_or-drop (i * size) bytes k d)

-- Two items are equal if their bytes are.
same_items : (size : ℕ) (xs ys : List ℕ) (i j : ℕ) → i < length xs / size → j < length ys / size
    → ((k : ℕ) → k < size → get_or xs (i * size + k) 0 ≡ get_or ys (j * size + k) 0)
    → item_at size xs i ≡ item_at size ys j
same_items size xs ys i j low low' same =
    ext_get_or 0 (item_at size xs i) (item_at size ys j)
    (length-item_at size xs i low ∙ sym (length-item_at size ys j low'))
    (λ k inside.
    let room : k < size = omega (arith, length-item_at size xs i low, inside) in
    get_or-item_at size xs i k 0 room ∙ same k room ∙ sym (get_or-item_at size ys j k 0 room))

-- Two places from which `size` bytes are swapped: the same, or apart.
pub record Apart (first second size : ℕ) : Type 0 where
  pub below : first < second → first + size ≤ second
  pub above : second < first → second + size ≤ first

module _ {first second size : ℕ} (apart : Apart first second size) where
  flipped : Apart second first size
  flipped = record { below = apart.above; above = apart.below }

  -- A byte that was not reached at the second place was not swapped at the first one either.
  later : (n : ℕ) → n < size → first ≤ second + n → first + n ≤ second + n
  later n low from = elim (cases_lt second first) [
    | inl less ↦ let end = apart.above less in absurd (omega arith)
    | inr more ↦ omega arith
  ]

  other_byte : (k n : ℕ) → k < n → n < size → first + k ≢ second + n
  other_byte k n less low same = elim (cases_lt first second) [
    | inl before ↦ let end = apart.below before in omega arith
    | inr after ↦ elim (cases_lt second first) [
      | inl before ↦ let end = apart.above before in omega arith
      | inr both ↦ omega arith
    ]
  ]

pub items-apart : (size a b : ℕ) → Apart (a * size) (b * size) size
items-apart size a b = record {
  below = λ low. elim (cases_lt a b) [
    | inl less ↦ before-item size a b less
    | inr more ↦ let over : b * size ≤ a * size = mul-le-mul_right size more in absurd (omega (arith, over, low))
  ];
  above = λ low. elim (cases_lt b a) [
    | inl less ↦ before-item size b a less
    | inr more ↦ let over : a * size ≤ b * size = mul-le-mul_right size more in absurd (omega (arith, over, low))
  ];
}

-- A byte of another item lies before an item or after it.
away : (size i a k : ℕ) → i ≢ a → k < size → a * size ≤ i * size + k → a * size + size ≤ i * size + k
away size i a k other room from = elim (cases_lt i a) [
  | inl less ↦ absurd (omega (arith, before-item size i a less))
  | inr more ↦ omega (arith, before-item size a i (omega (arith, other)))
]

-- The first n bytes from two places are swapped, and the other bytes are as they were.
pub record Swapped (first second n : ℕ) (old now : List ℕ) : Type 0 where
  pub there : (k : ℕ) → k < n → get_or now (first + k) 0 ≡ get_or old (second + k) 0
  pub back : (k : ℕ) → k < n → get_or now (second + k) 0 ≡ get_or old (first + k) 0
  pub others : (m : ℕ) → (first ≤ m → first + n ≤ m) → (second ≤ m → second + n ≤ m) → get_or now m 0 ≡ get_or old m 0

pub swapped-none : (first second : ℕ) (old : List ℕ) → Swapped first second 0 old old
swapped-none first second old = record {
  there = λ k low. absurd (omega arith);
  back = λ k low. absurd (omega arith);
  others = λ m one two. refl;
}

pub swapped-more : (first second size n : ℕ) (old now : List ℕ) → Apart first second size → n < size
    → first + size ≤ length now → second + size ≤ length now
    → Swapped first second n old now → Swapped first second (n + 1) old (swap now (first + n) (second + n))
swapped-more first second size n old now apart low room room' so_far =
    let new = swap now (first + n) (second + n) in
    let moved = swapped_from_swap now new (first + n) (second + n) 0 (omega arith) (omega arith) refl in
    let fresh : get_or now (second + n) 0 ≡ get_or old (second + n) 0 =
    so_far.others (second + n) (later apart n low) (λ h. omega arith) in
    let fresh' : get_or now (first + n) 0 ≡ get_or old (first + n) 0 =
    so_far.others (first + n) (λ h. omega arith) (later (flipped apart) n low) in
    record {
      there = λ k less. elim (cases_eq k n) [
        | inl same ↦ rw same (moved.0 ∙ fresh)
        | inr other ↦
            let before : k < n = omega (arith, other) in
            moved.2 (first + k) (λ e. other (omega (arith, e))) (other_byte apart k n before low) ∙ so_far.there k before
      ];
      back = λ k less. elim (cases_eq k n) [
        | inl same ↦ rw same (moved.1 ∙ fresh')
        | inr other ↦
            let before : k < n = omega (arith, other) in
            moved.2 (second + k) (other_byte (flipped apart) k n before low) (λ e. other (omega (arith, e))) ∙ so_far.back k before
      ];
      others = λ m one two.
          moved.2 m (λ e. let past = one (omega (arith, e)) in omega (arith, e, past)) (λ e. let past = two (omega (arith, e)) in omega (arith, e, past))
          ∙ so_far.others m (λ h. omega (arith, one h)) (λ h. omega (arith, two h));
    }

module _ (size a b : ℕ) (old now : List ℕ) (len : length now ≡ length old) (low : a < length old / size) (low' : b < length old / size)
    (all : Swapped (a * size) (b * size) size old now) where
  -- Then the items are swapped.
  pub items-swapped : items_of size now ≡ swap (items_of size old) a b
  items-swapped =
      let count : length now / size ≡ length old / size = ap (λ (n : ℕ). n / size) len in
      let items = items_of size old in
      let moved = swapped_from_swap items (swap items a b) a b [] (omega (arith, length-items_of size old)) (omega (arith, length-items_of size old)) refl in
      ext_get_or [] (items_of size now) (swap items a b)
      (length-items_of size now ∙ count ∙ sym (length-items_of size old) ∙ sym (length-swap items a b))
      (λ i inside.
      let within : i < length old / size = omega (arith, length-items_of size now, count, inside) in
      let within' : i < length now / size = omega (arith, count) in
      get_or-items_of size now i [] within'
      ∙ elim (cases_eq i b) [
        | inl same ↦
            rw same (same_items size now old b a (omega (arith, count)) low (λ k room. all.back k room)
            ∙ sym (get_or-items_of size old a [] low) ∙ sym moved.1)
        | inr other ↦ elim (cases_eq i a) [
          | inl same ↦
              rw same (same_items size now old a b (omega (arith, count)) low' (λ k room. all.there k room)
              ∙ sym (get_or-items_of size old b [] low') ∙ sym moved.0)
          | inr other' ↦
              same_items size now old i i within' within
              (λ k room. all.others (i * size + k) (λ h. away size i a k other' room h) (λ h. away size i b k other room h))
              ∙ sym (get_or-items_of size old i [] within) ∙ sym (moved.2 i other' other)
        ]
      ])

  -- And the bytes after the last whole item are as they were.
  pub rest-same : drop (length old / size * size) now ≡ drop (length old / size * size) old
  rest-same =
      let whole : ℕ = length old / size * size in
      let end = item-within size (length old) a low in
      let end' = item-within size (length old) b low' in
      ext_get_or 0 (drop whole now) (drop whole old) (omega (arith, length-drop whole now, length-drop whole old))
      (λ k inside.
      get_or-drop whole now k 0
      ∙ all.others (whole + k) (λ h. omega (arith, end)) (λ h. omega (arith, end'))
      ∙ sym (get_or-drop whole old k 0))
