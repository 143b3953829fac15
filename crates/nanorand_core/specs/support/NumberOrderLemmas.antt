-- Lemmas about word widths and the order of numbers. Not needed to understand the contracts: this
-- file is in specs/ only because laws of impls cite its lemmas.
use Rattle.std.specs.Prelude.{◌≡◌, ℕ, ◌-◌, ◌^◌, ◌<◌, ◌≤◌, true, false, nat_le, nat_lt, int_le, int_lt, pos, ◌-ℤ◌, refl}
use Rattle.std.proofs.Common.{inl, inr, arith, sym, ◌∙◌}
use Rattle.std.proofs.lemmas.Bool.{cases_lt, le-leb, lt-leb, lt-ltb, le-ltb}
use Rattle.std.proofs.lemmas.Int.{ints}
use Rattle.nanorand_core.specs.values.Runs.{IsWordWidth}
use Rattle.nanorand_core.specs.values.Range.{signed_number}

pub width_8 : IsWordWidth 8
width_8 = inl refl

pub width_16 : IsWordWidth 16
width_16 = inr (inl refl)

pub width_32 : IsWordWidth 32
width_32 = inr (inr (inl refl))

pub width_64 : IsWordWidth 64
width_64 = inr (inr (inr refl))

-- subtracting an offset keeps the order
shifted_le : (m j k : ℕ) → j ≤ k → int_le (pos j -ℤ pos m) (pos k -ℤ pos m) ≡ true
shifted_le m j k h = grind (arith, ints)

shifted_lt : (m j k : ℕ) → j < k → int_lt (pos j -ℤ pos m) (pos k -ℤ pos m) ≡ true
shifted_lt m j k h = grind (arith, ints)

shifted_not_le : (m j k : ℕ) → k < j → int_le (pos j -ℤ pos m) (pos k -ℤ pos m) ≡ false
shifted_not_le m j k h = grind (arith, ints)

shifted_not_lt : (m j k : ℕ) → k ≤ j → int_lt (pos j -ℤ pos m) (pos k -ℤ pos m) ≡ false
shifted_not_lt m j k h = grind (arith, ints)

pub int_le-signed : (bits j k : ℕ) → int_le (signed_number bits j) (signed_number bits k) ≡ nat_le j k
int_le-signed bits j k =
    elim (cases_lt k j) [
      | inl under ↦ shifted_not_le (2 ^ (bits - 1)) j k under ∙ sym (lt-leb j k under)
      | inr over ↦ shifted_le (2 ^ (bits - 1)) j k over ∙ sym (le-leb j k over)
    ]

pub int_lt-signed : (bits j k : ℕ) → int_lt (signed_number bits j) (signed_number bits k) ≡ nat_lt j k
int_lt-signed bits j k =
    elim (cases_lt j k) [
      | inl under ↦ shifted_lt (2 ^ (bits - 1)) j k under ∙ sym (lt-ltb j k under)
      | inr over ↦ shifted_not_lt (2 ^ (bits - 1)) j k over ∙ sym (le-ltb j k over)
    ]
