-- Known answers: requests that cannot be read. One names no type, one asks for a range of a type
-- that has none, one has a bound that does not fit, and one lacks a bound.
use Rattle.std.specs.Prelude.{◌≡◌, ◌≢◌, ℕ, ◌<◌, List, [], ◌∷◌, ◌++◌, codes, drop, length, slice_index, refl}
use Rattle.std.proofs.Common.{ap, arith, subst, sym}
use Rattle.std.specs.declared.ops.Bound.{Bound}
use Rattle.std.specs.declared.ops.Bound.TheVariants.{Included, Excluded, Unbounded}
use Rattle.nanorand_replay.specs.declared.replay.Kind.TheVariants as kinds
use Rattle.nanorand_replay.specs.declared.replay.Span.TheVariants as spans
use Rattle.nanorand_replay.specs.declared.replay.Call.{Call}
use Rattle.nanorand_replay.specs.declared.replay.Call.TheVariants.{Gen, Range, Shuffle}
use Rattle.draw_core.specs.Numbers.{IsUnsigned}
use Rattle.draw_core.specs.support.PlainTexts.{unsigned_plain}
use Rattle.draw_core.specs.Requests.{IsLow, IsHigh, IsRange, IsRequest}

-- Texts that differ at an index are not equal.
differ : (index : ℕ) {text other : List ℕ} → text ≡ other → slice_index text index ≢ slice_index other index → ⊥
differ index same apart = apart (ap (λ t. slice_index t index) same)

-- No type is named `u9`, and `u128` has no ranges.
pub no_u9 : (call : Call) → IsRequest (codes "u9") call → ⊥
no_u9 (Gen kinds.I8) said = differ 0 said (omega arith)
no_u9 (Gen kinds.I16) said = differ 0 said (omega arith)
no_u9 (Gen kinds.I32) said = differ 0 said (omega arith)
no_u9 (Gen kinds.I64) said = differ 0 said (omega arith)
no_u9 (Gen kinds.I128) said = differ 0 said (omega arith)
no_u9 (Gen kinds.Isize) said = differ 0 said (omega arith)
no_u9 (Gen kinds.U8) said = differ 1 said (omega arith)
no_u9 (Gen kinds.U16) said = differ 1 said (omega arith)
no_u9 (Gen kinds.U32) said = differ 1 said (omega arith)
no_u9 (Gen kinds.U64) said = differ 1 said (omega arith)
no_u9 (Gen kinds.U128) said = differ 1 said (omega arith)
no_u9 (Gen kinds.Usize) said = differ 1 said (omega arith)
no_u9 (Gen kinds.Bool) said = differ 0 said (omega arith)
no_u9 (Range (spans.I8 low high)) (range, text, bounds) = differ 0 text (omega arith)
no_u9 (Range (spans.I16 low high)) (range, text, bounds) = differ 0 text (omega arith)
no_u9 (Range (spans.I32 low high)) (range, text, bounds) = differ 0 text (omega arith)
no_u9 (Range (spans.I64 low high)) (range, text, bounds) = differ 0 text (omega arith)
no_u9 (Range (spans.Isize low high)) (range, text, bounds) = differ 0 text (omega arith)
no_u9 (Range (spans.U8 low high)) (range, text, bounds) = differ 1 text (omega arith)
no_u9 (Range (spans.U16 low high)) (range, text, bounds) = differ 1 text (omega arith)
no_u9 (Range (spans.U32 low high)) (range, text, bounds) = differ 1 text (omega arith)
no_u9 (Range (spans.U64 low high)) (range, text, bounds) = differ 1 text (omega arith)
no_u9 (Range (spans.Usize low high)) (range, text, bounds) = differ 1 text (omega arith)
no_u9 Shuffle said = differ 0 said (omega arith)

pub no_range_of_u128 : (call : Call) → IsRequest (codes "u128:1..2") call → ⊥
no_range_of_u128 (Gen kinds.I8) said = differ 0 said (omega arith)
no_range_of_u128 (Gen kinds.I16) said = differ 0 said (omega arith)
no_range_of_u128 (Gen kinds.I32) said = differ 0 said (omega arith)
no_range_of_u128 (Gen kinds.I64) said = differ 0 said (omega arith)
no_range_of_u128 (Gen kinds.I128) said = differ 0 said (omega arith)
no_range_of_u128 (Gen kinds.Isize) said = differ 0 said (omega arith)
no_range_of_u128 (Gen kinds.U8) said = differ 1 said (omega arith)
no_range_of_u128 (Gen kinds.U16) said = differ 2 said (omega arith)
no_range_of_u128 (Gen kinds.U32) said = differ 1 said (omega arith)
no_range_of_u128 (Gen kinds.U64) said = differ 1 said (omega arith)
no_range_of_u128 (Gen kinds.U128) said = differ 4 said (omega arith)
no_range_of_u128 (Gen kinds.Usize) said = differ 1 said (omega arith)
no_range_of_u128 (Gen kinds.Bool) said = differ 0 said (omega arith)
no_range_of_u128 (Range (spans.I8 low high)) (range, text, bounds) = differ 0 text (omega arith)
no_range_of_u128 (Range (spans.I16 low high)) (range, text, bounds) = differ 0 text (omega arith)
no_range_of_u128 (Range (spans.I32 low high)) (range, text, bounds) = differ 0 text (omega arith)
no_range_of_u128 (Range (spans.I64 low high)) (range, text, bounds) = differ 0 text (omega arith)
no_range_of_u128 (Range (spans.Isize low high)) (range, text, bounds) = differ 0 text (omega arith)
no_range_of_u128 (Range (spans.U8 low high)) (range, text, bounds) = differ 1 text (omega arith)
no_range_of_u128 (Range (spans.U16 low high)) (range, text, bounds) = differ 2 text (omega arith)
no_range_of_u128 (Range (spans.U32 low high)) (range, text, bounds) = differ 1 text (omega arith)
no_range_of_u128 (Range (spans.U64 low high)) (range, text, bounds) = differ 1 text (omega arith)
no_range_of_u128 (Range (spans.Usize low high)) (range, text, bounds) = differ 1 text (omega arith)
no_range_of_u128 Shuffle said = differ 0 said (omega arith)

-- The text after `u8:` is a range of that type.
range_of_u8 : (range : List ℕ) (call : Call) → IsRequest (codes "u8:" ++ range) call → (low : Bound ℕ)
    × (high : Bound ℕ) × IsRange (IsUnsigned 8) range low high
range_of_u8 range (Gen kinds.I8) said = absurd (differ 0 said (omega arith))
range_of_u8 range (Gen kinds.I16) said = absurd (differ 0 said (omega arith))
range_of_u8 range (Gen kinds.I32) said = absurd (differ 0 said (omega arith))
range_of_u8 range (Gen kinds.I64) said = absurd (differ 0 said (omega arith))
range_of_u8 range (Gen kinds.I128) said = absurd (differ 0 said (omega arith))
range_of_u8 range (Gen kinds.Isize) said = absurd (differ 0 said (omega arith))
range_of_u8 range (Gen kinds.U8) said = absurd (differ 2 said (omega arith))
range_of_u8 range (Gen kinds.U16) said = absurd (differ 1 said (omega arith))
range_of_u8 range (Gen kinds.U32) said = absurd (differ 1 said (omega arith))
range_of_u8 range (Gen kinds.U64) said = absurd (differ 1 said (omega arith))
range_of_u8 range (Gen kinds.U128) said = absurd (differ 1 said (omega arith))
range_of_u8 range (Gen kinds.Usize) said = absurd (differ 1 said (omega arith))
range_of_u8 range (Gen kinds.Bool) said = absurd (differ 0 said (omega arith))
range_of_u8 range (Range (spans.I8 low high)) (other, text, bounds) = absurd (differ 0 text (omega arith))
range_of_u8 range (Range (spans.I16 low high)) (other, text, bounds) = absurd (differ 0 text (omega arith))
range_of_u8 range (Range (spans.I32 low high)) (other, text, bounds) = absurd (differ 0 text (omega arith))
range_of_u8 range (Range (spans.I64 low high)) (other, text, bounds) = absurd (differ 0 text (omega arith))
range_of_u8 range (Range (spans.Isize low high)) (other, text, bounds) = absurd (differ 0 text (omega arith))
range_of_u8 range (Range (spans.U8 low high)) (other, text, bounds) = let same : other
    ≡ range = sym (ap (drop 3) text) in (low, high, subst (λ r. IsRange (IsUnsigned 8) r low high) same bounds)
range_of_u8 range (Range (spans.U16 low high)) (other, text, bounds) = absurd (differ 1 text (omega arith))
range_of_u8 range (Range (spans.U32 low high)) (other, text, bounds) = absurd (differ 1 text (omega arith))
range_of_u8 range (Range (spans.U64 low high)) (other, text, bounds) = absurd (differ 1 text (omega arith))
range_of_u8 range (Range (spans.Usize low high)) (other, text, bounds) = absurd (differ 1 text (omega arith))
range_of_u8 range Shuffle said = absurd (differ 0 said (omega arith))

-- A low bound of one digit ends where the dots begin.
low_of_one_digit : (digit : ℕ) (rest before after : List ℕ) (low : Bound ℕ) → digit ≢ 46 → IsLow (IsUnsigned 8) before low
    → digit ∷ 46 ∷ 46 ∷ rest ≡ before ++ codes ".." ++ after → rest ≡ after
low_of_one_digit digit rest [] after low no_dot is_low whole = absurd (no_dot (ap (λ t. slice_index t 0) whole))
low_of_one_digit digit rest (d ∷ []) after low no_dot is_low whole = ap (drop 3) whole
low_of_one_digit digit rest (d ∷ e ∷ before) after (Included n) no_dot is_low whole =
    absurd ((unsigned_plain 8 (d ∷ e ∷ before) n is_low).no_dot 1 (omega arith) (sym (ap (λ t. slice_index t 1) whole)))
low_of_one_digit digit rest (d ∷ e ∷ before) after (Excluded n) no_dot is_low whole = absurd is_low
low_of_one_digit digit rest (d ∷ e ∷ before) after Unbounded no_dot is_low whole = absurd (let none = ap length is_low in omega (arith, none))

-- 300 does not fit in 8 bits.
no_300 : (high : Bound ℕ) → IsHigh (IsUnsigned 8) (codes "300") high → ⊥
no_300 (Included n) (digits, text, said) = differ 0 text (omega arith)
no_300 (Excluded n) said = omega (arith, said.value, said.fits)
no_300 Unbounded said = differ 0 said (omega arith)

-- The number after the `=` is missing.
no_end : (high : Bound ℕ) → IsHigh (IsUnsigned 8) (codes "=") high → ⊥
no_end (Included n) (digits, text, said) = let none : []
    ≡ digits = ap (drop 1) text in let some : 0 < length digits = said.digits.0 in omega (arith, some, ap length none)
no_end (Excluded n) said = (unsigned_plain 8 (codes "=") n said).no_equals refl
no_end Unbounded said = differ 0 said (omega arith)

pub no_u8_to_300 : (call : Call) → IsRequest (codes "u8:1..300") call → ⊥
no_u8_to_300 call said =
    let range = range_of_u8 (codes "1..300") call said in
    let after = low_of_one_digit 49 (codes "300") range.2.before range.2.after range.0 (λ e. omega (arith, e)) range.2.is_low range.2.whole in
    no_300 range.1 (subst (λ t. IsHigh (IsUnsigned 8) t range.1) (sym after) range.2.is_high)

pub no_u8_to_nothing : (call : Call) → IsRequest (codes "u8:5..=") call → ⊥
no_u8_to_nothing call said =
    let range = range_of_u8 (codes "5..=") call said in
    let after = low_of_one_digit 53 (codes "=") range.2.before range.2.after range.0 (λ e. omega (arith, e)) range.2.is_low range.2.whole in
    no_end range.1 (subst (λ t. IsHigh (IsUnsigned 8) t range.1) (sym after) range.2.is_high)
