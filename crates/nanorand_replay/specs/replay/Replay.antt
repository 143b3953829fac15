-- Replay: a list of calls, the answers and the items that it gives, and the state after it. All of
-- this is determined by the requests: the bytes that each takes, and the state that it leaves.
use Rattle.std.specs.Prelude.{◌≡◌, ℕ, ℤ, List, [], ◌∷◌, ◌++◌, Result, Ok, Err}
use Rattle.std.specs.declared.ops.Bound.{Bound}
use Rattle.std.specs.Int.{w8, w16, w32, w64, w128}
use Rattle.nanorand_core.specs.generators.Blocks.{Requests}
use Rattle.nanorand_core.specs.values.Values.{number_of, signed_number_of, truth_of}
use Rattle.nanorand_core.specs.values.Draws.{unsigned_outcome, signed_outcome}
use Rattle.nanorand_core.specs.shuffles.Shuffles.{from_itself, shuffled}
use Rattle.nanorand_core.specs.declared.values.range.RangeError.{RangeError}
use Rattle.nanorand_core.specs.declared.values.range.RangeError.TheVariants as refusals
use Rattle.nanorand_replay.specs.declared.replay.Kind.{Kind}
use Rattle.nanorand_replay.specs.declared.replay.Kind.TheVariants as kinds
use Rattle.nanorand_replay.specs.declared.replay.Call.{Call}
use Rattle.nanorand_replay.specs.declared.replay.Span.{Span}
use Rattle.nanorand_replay.specs.declared.replay.Span.TheVariants as spans
use Rattle.nanorand_replay.specs.declared.replay.Call.TheVariants.{Gen, Range, Shuffle}
use Rattle.nanorand_replay.specs.declared.replay.Answer.{Answer}
use Rattle.nanorand_replay.specs.declared.replay.Answer.TheVariants.{Unsigned, Signed, Truth, Empty, Exhausted, Shuffled}

-- The number of bytes that a value of the type takes.
abbrev pub size_of : Kind → ℕ
size_of kinds.I8 = 1
size_of kinds.I16 = 2
size_of kinds.I32 = 4
size_of kinds.I64 = 8
size_of kinds.I128 = 16
size_of kinds.Isize = 8
size_of kinds.U8 = 1
size_of kinds.U16 = 2
size_of kinds.U32 = 4
size_of kinds.U64 = 8
size_of kinds.U128 = 16
size_of kinds.Usize = 8
size_of kinds.Bool = 1

-- The value of the type made from these bytes, in little-endian order.
abbrev pub value_of : Kind → List ℕ → Answer
value_of kinds.I8 bytes = Signed (signed_number_of w8 bytes)
value_of kinds.I16 bytes = Signed (signed_number_of w16 bytes)
value_of kinds.I32 bytes = Signed (signed_number_of w32 bytes)
value_of kinds.I64 bytes = Signed (signed_number_of w64 bytes)
value_of kinds.I128 bytes = Signed (signed_number_of w128 bytes)
value_of kinds.Isize bytes = Signed (signed_number_of w64 bytes)
value_of kinds.U8 bytes = Unsigned (number_of bytes)
value_of kinds.U16 bytes = Unsigned (number_of bytes)
value_of kinds.U32 bytes = Unsigned (number_of bytes)
value_of kinds.U64 bytes = Unsigned (number_of bytes)
value_of kinds.U128 bytes = Unsigned (number_of bytes)
value_of kinds.Usize bytes = Unsigned (number_of bytes)
value_of kinds.Bool bytes = Truth (truth_of bytes)

-- The low and the high bound of a range of the unsigned or the signed type of n bits.
pub data TypedBounds : Type 0 where
  unsigned : ℕ → Bound ℕ → Bound ℕ → TypedBounds
  signed : ℕ → Bound ℤ → Bound ℤ → TypedBounds

abbrev pub bounds_of : Span → TypedBounds
bounds_of (spans.I8 low high) = signed 8 low high
bounds_of (spans.I16 low high) = signed 16 low high
bounds_of (spans.I32 low high) = signed 32 low high
bounds_of (spans.I64 low high) = signed 64 low high
bounds_of (spans.Isize low high) = signed 64 low high
bounds_of (spans.U8 low high) = unsigned 8 low high
bounds_of (spans.U16 low high) = unsigned 16 low high
bounds_of (spans.U32 low high) = unsigned 32 low high
bounds_of (spans.U64 low high) = unsigned 64 low high
bounds_of (spans.Usize low high) = unsigned 64 low high

-- The answer to a call that returns an error.
abbrev pub refusal_answer : RangeError → Answer
refusal_answer refusals.Empty = Empty
refusal_answer refusals.Exhausted = Exhausted

-- The answer to a draw from a range of an unsigned type.
abbrev pub unsigned_answer : Result ℕ RangeError → Answer
unsigned_answer (Ok number) = Unsigned number
unsigned_answer (Err refusal) = refusal_answer refusal

-- The answer to a draw from a range of a signed type.
abbrev pub signed_answer : Result ℤ RangeError → Answer
signed_answer (Ok number) = Signed number
signed_answer (Err refusal) = refusal_answer refusal

-- The answer to a shuffle.
abbrev pub shuffle_call_answer : Result (Unit {0}) RangeError → Answer
shuffle_call_answer (Ok tt) = Shuffled
shuffle_call_answer (Err refusal) = refusal_answer refusal

-- The answer to one call, and the items and the state that the call leaves.
pub record Outcome (G : Type 0) : Type 0 where
  pub answer : Answer
  pub items : List ℕ
  pub state : G

-- The answers to a list of calls, one for each, and the items and the state that the calls leave.
pub record Replay (G : Type 0) : Type 0 where
  pub answers : List Answer
  pub items : List ℕ
  pub state : G

module _ {G : Type 0} (requests : Requests G) where
  -- The answer to a draw from a range, and the state that the draw leaves.
  abbrev pub bounds_outcome : G → TypedBounds → Answer × G
  bounds_outcome g (unsigned bits low high) =
      let drawn = unsigned_outcome requests bits g low high in
      (unsigned_answer drawn.0, drawn.1)
  bounds_outcome g (signed bits low high) =
      let drawn = signed_outcome requests bits g low high in
      (signed_answer drawn.0, drawn.1)

  abbrev pub span_outcome : G → Span → Answer × G
  span_outcome g span = bounds_outcome g (bounds_of span)

  abbrev pub outcome : G → List ℕ → Call → Outcome G
  outcome g items (Gen kind) = record {
    answer = value_of kind (requests.bytes g (size_of kind));
    items = items;
    state = requests.after g (size_of kind);
  }
  outcome g items (Range span) = record {
    answer = (span_outcome g span).0;
    items = items;
    state = (span_outcome g span).1;
  }
  outcome g items Shuffle =
      let shuffle = shuffled requests from_itself g items in
      record {
        answer = shuffle_call_answer shuffle.answer;
        items = shuffle.items;
        state = shuffle.state;
      }

  -- Each call starts from the items and the state that the call before it left.
  abbrev pub replayed : G → List ℕ → List Call → Replay G
  replayed g items [] = record { answers = []; items = items; state = g }
  replayed g items (call ∷ calls) =
      let first = outcome g items call in
      let rest = replayed first.state first.items calls in
      record { answers = first.answer ∷ rest.answers; items = rest.items; state = rest.state }

  -- Replaying two lists as one is the same as replaying the first and then the second, from the
  -- state and the items that the first left.
  abbrev pub ReplaysJoin : Type 0
  ReplaysJoin = (g : G) (items : List ℕ) (calls others : List Call) →
      let first = replayed g items calls in
      let rest = replayed first.state first.items others in
      replayed g items (calls ++ others)
      ≡ record { answers = first.answers ++ rest.answers; items = rest.items; state = rest.state }
