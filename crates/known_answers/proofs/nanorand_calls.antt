-- Known answers: words as floating-point numbers below 1, and bytes as items.
use Rattle.std.specs.Prelude.{◌≡◌, ◌-◌, ◌^◌, [], ◌∷◌, false, negsuc, refl}
use Rattle.std.specs.Float.{fin, float_zero}
use Rattle.nanorand_calls.specs.Fractions.{IsFractionOf}
use Rattle.nanorand_calls.specs.Items.{items_of}

-- The word 0, and the greatest word whose top 53 bits are zeros.
no_bits : IsFractionOf 0 float_zero
no_bits = (refl, refl)

low_bits : IsFractionOf (2 ^ 11 - 1) float_zero
low_bits = (refl, refl)

-- The least fraction above 0 is 2^-53.
least : IsFractionOf (2 ^ 11) (fin false 1 (negsuc 52))
least = (refl, refl)

half : IsFractionOf (2 ^ 63) (fin false 1 (negsuc 0))
half = (refl, refl)

-- The greatest one is 1 - 2^-53.
greatest : IsFractionOf (2 ^ 64 - 1) (fin false (2 ^ 53 - 1) (negsuc 52))
greatest = (refl, refl)

-- Two items of three bytes, and a byte that is no item.
two_items : items_of 3 (1 ∷ 2 ∷ 3 ∷ 4 ∷ 5 ∷ 6 ∷ 7 ∷ []) ≡ (1 ∷ 2 ∷ 3 ∷ []) ∷ (4 ∷ 5 ∷ 6 ∷ []) ∷ []
two_items = refl

no_item : items_of 3 (1 ∷ 2 ∷ []) ≡ []
no_item = refl

items_of_no_size : items_of 0 (1 ∷ 2 ∷ []) ≡ []
items_of_no_size = refl
