-- What a request asks for: a relation between its text and a call.
use Rattle.std.specs.Prelude.{◌≡◌, ℕ, List, [], ◌++◌, codes}
use Rattle.std.specs.Int.{w8, w16, w32, w64}
use Rattle.std.specs.declared.ops.Bound.{Bound}
use Rattle.std.specs.declared.ops.Bound.TheVariants.{Included, Excluded, Unbounded}
use Rattle.nanorand_replay.specs.declared.replay.Kind.{Kind}
use Rattle.nanorand_replay.specs.declared.replay.Kind.TheVariants as kinds
use Rattle.nanorand_replay.specs.declared.replay.Span.{Span}
use Rattle.nanorand_replay.specs.declared.replay.Span.TheVariants as spans
use Rattle.nanorand_replay.specs.declared.replay.Call.{Call}
use Rattle.nanorand_replay.specs.declared.replay.Call.TheVariants.{Gen, Range, Shuffle}
use Rattle.draw_core.specs.Numbers.{IsUnsigned, IsSigned}

-- The name of a type.
abbrev pub name_of : Kind → List ℕ
name_of kinds.I8 = codes "i8"
name_of kinds.I16 = codes "i16"
name_of kinds.I32 = codes "i32"
name_of kinds.I64 = codes "i64"
name_of kinds.I128 = codes "i128"
name_of kinds.Isize = codes "isize"
name_of kinds.U8 = codes "u8"
name_of kinds.U16 = codes "u16"
name_of kinds.U32 = codes "u32"
name_of kinds.U64 = codes "u64"
name_of kinds.U128 = codes "u128"
name_of kinds.Usize = codes "usize"
name_of kinds.Bool = codes "bool"

-- The text before the dots: empty, or the least number. `is_text` relates a text to its number.
abbrev pub IsLow : {N : Type 0} → (List ℕ → N → Type 0) → List ℕ → Bound N → Type 0
IsLow is_text text Unbounded = text ≡ []
IsLow is_text text (Included n) = is_text text n
IsLow is_text text (Excluded n) = ⊥

-- The text after the dots: empty, or the number that ends the range and is excluded from it, or `=`
-- and the greatest number.
abbrev pub IsHigh : {N : Type 0} → (List ℕ → N → Type 0) → List ℕ → Bound N → Type 0
IsHigh is_text text Unbounded = text ≡ []
IsHigh is_text text (Excluded n) = is_text text n
IsHigh is_text text (Included n) =
    (digits : List ℕ) × (text ≡ codes "=" ++ digits) × is_text digits n

-- LOW..HIGH or LOW..=HIGH.
pub record IsRange {N : Type 0} (is_text : List ℕ → N → Type 0) (text : List ℕ) (low high : Bound N)
    : Type 0 where
  pub before : List ℕ
  pub after : List ℕ
  pub whole : text ≡ before ++ codes ".." ++ after
  pub is_low : IsLow is_text before low
  pub is_high : IsHigh is_text after high

-- The type of the numbers in a span.
abbrev pub kind_of_span : Span → Kind
kind_of_span (spans.I8 low high) = kinds.I8
kind_of_span (spans.I16 low high) = kinds.I16
kind_of_span (spans.I32 low high) = kinds.I32
kind_of_span (spans.I64 low high) = kinds.I64
kind_of_span (spans.Isize low high) = kinds.Isize
kind_of_span (spans.U8 low high) = kinds.U8
kind_of_span (spans.U16 low high) = kinds.U16
kind_of_span (spans.U32 low high) = kinds.U32
kind_of_span (spans.U64 low high) = kinds.U64
kind_of_span (spans.Usize low high) = kinds.Usize

-- The text gives the two bounds of the span.
abbrev pub IsBounds : List ℕ → Span → Type 0
IsBounds text (spans.I8 low high) = IsRange (IsSigned w8) text low high
IsBounds text (spans.I16 low high) = IsRange (IsSigned w16) text low high
IsBounds text (spans.I32 low high) = IsRange (IsSigned w32) text low high
IsBounds text (spans.I64 low high) = IsRange (IsSigned w64) text low high
IsBounds text (spans.Isize low high) = IsRange (IsSigned w64) text low high
IsBounds text (spans.U8 low high) = IsRange (IsUnsigned 8) text low high
IsBounds text (spans.U16 low high) = IsRange (IsUnsigned 16) text low high
IsBounds text (spans.U32 low high) = IsRange (IsUnsigned 32) text low high
IsBounds text (spans.U64 low high) = IsRange (IsUnsigned 64) text low high
IsBounds text (spans.Usize low high) = IsRange (IsUnsigned 64) text low high

-- The request asks for the call: the name of a type, or a type, a colon and a range of it, or
-- `shuffle`.
abbrev pub IsRequest : List ℕ → Call → Type 0
IsRequest text (Gen kind) = text ≡ name_of kind
IsRequest text (Range span) =
    (range : List ℕ) × (text ≡ name_of (kind_of_span span) ++ codes ":" ++ range)
    × IsBounds range span
IsRequest text Shuffle = text ≡ codes "shuffle"
