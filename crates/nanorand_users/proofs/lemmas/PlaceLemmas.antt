-- Indices in consecutive parts of equal length.
use Rattle.std.proofs.Common.{◌≡◌, ℕ, ◌+◌, ◌*◌, ◌<◌, ◌≤◌, ◌%◌, ◌/◌, sym, ◌∙◌, ap, arith}
use Rattle.std.proofs.lemmas.Nat.{mul-le, div-mul-add, mod-mul-add}

-- An index within a part is below the end of all parts.
pub place_below : (parts part end i j : ℕ) → parts * part ≤ end → i < parts → j < part → i * part + j < end
place_below parts part end i j fits one within =
    omega (arith, mul-le (i + 1) part parts part (omega arith) (omega arith))

-- Equal indices are the same index in the same part.
pub same_place : (part i j k l : ℕ) → j < part → l < part → i * part + j ≡ k * part + l → (i ≡ k) × (j ≡ l)
same_place part i j k l first second same = (
  sym (div-mul-add i part j first) ∙ ap (λ (n : ℕ). n / part) same ∙ div-mul-add k part l second,
  sym (mod-mul-add i part j first) ∙ ap (λ (n : ℕ). n % part) same ∙ mod-mul-add k part l second,
)
