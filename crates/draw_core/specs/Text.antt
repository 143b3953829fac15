-- What a command draws, and the text that is written.
use Rattle.std.specs.Prelude.{ℕ, if◌then◌else◌, List, [], ◌∷◌, ◌++◌, codes, decimal, Result, Ok, Err}
use Rattle.std.specs.Fmt.{signed_decimal}
use Rattle.std.specs.List.{flat_map, range_with_len}
use Rattle.nanorand_replay.specs.declared.replay.Answer.{Answer}
use Rattle.nanorand_replay.specs.declared.replay.Answer.TheVariants.{Unsigned, Signed, Truth, Empty, Exhausted, Shuffled}
use Rattle.nanorand_replay.specs.declared.replay.Call.{Call}
use Rattle.nanorand_core.specs.generators.Blocks.{plain}
use Rattle.nanorand_replay.specs.generators.Buffered.{buffer_of, buffered}
use Rattle.nanorand_core.specs.values.Values.{number_of}
use Rattle.nanorand.specs.generators.ChaCha.{chacha_block, next_state, seeded_state}
use Rattle.nanorand.specs.generators.Pcg64.{next, pcg64_block, seeded_generator}
use Rattle.nanorand.specs.generators.WyRand.{next_seed, wyrand_block}
use Rattle.nanorand_replay.specs.replay.Replay.{replayed}
use Rattle.draw_core.specs.declared.command.Mode.{Mode}
use Rattle.draw_core.specs.declared.command.Mode.TheVariants.{Plain, Buffered}
use Rattle.draw_core.specs.declared.command.SeededGenerator.{SeededGenerator}
use Rattle.draw_core.specs.declared.command.SeededGenerator.TheVariants.{WyRand, Pcg64, ChaCha8, ChaCha12, ChaCha20}
use Rattle.draw_core.specs.declared.error.DrawError.{DrawError}
use Rattle.draw_core.specs.declared.error.DrawError.TheVariants.{BadWord, Memory, Write}
use Rattle.draw_core.specs.Arguments.{Asked}

-- The answers to the calls, and the items after the calls.
pub record Drawn : Type 0 where
  pub answers : List Answer
  pub items : List ℕ

-- Runs the calls on a generator with blocks of `output` bytes: in plain mode on the generator
-- itself, and in buffered mode on a buffer around it, which is empty at first.
abbrev pub in_mode :
    {G : Type 0} → (G → List ℕ) → (G → G) → ℕ → G → Mode → List Call → List ℕ → Drawn
in_mode block step output g Plain calls items =
    let all = replayed (plain block step output) g items calls in
    record { answers = all.answers; items = all.items }
in_mode block step output g Buffered calls items =
    let all = replayed (buffered block step output) (buffer_of [] g) items calls in
    record { answers = all.answers; items = all.items }

-- Runs the calls on a generator with its seed.
abbrev pub from_seeded : SeededGenerator → Mode → List Call → List ℕ → Drawn
from_seeded (WyRand seed) = in_mode wyrand_block next_seed 8 (number_of seed)
from_seeded (Pcg64 seed) = in_mode pcg64_block next 8 (seeded_generator seed)
from_seeded (ChaCha8 seed) = in_mode (chacha_block 8) next_state 64 (seeded_state seed)
from_seeded (ChaCha12 seed) = in_mode (chacha_block 12) next_state 64 (seeded_state seed)
from_seeded (ChaCha20 seed) = in_mode (chacha_block 20) next_state 64 (seeded_state seed)

-- The text of an answer.
abbrev pub answer_text : Answer → List ℕ
answer_text (Unsigned number) = decimal number
answer_text (Signed number) = signed_decimal number
answer_text (Truth truth) = if truth then codes "true" else codes "false"
answer_text Empty = codes "empty"
answer_text Exhausted = codes "exhausted"
answer_text Shuffled = codes "shuffled"

-- The line of an answer, with its line feed.
abbrev pub line_of : Answer → List ℕ
line_of answer = answer_text answer ++ 10 ∷ []

-- An item, preceded by a space.
abbrev pub item_text : ℕ → List ℕ
item_text item = 32 ∷ decimal item

-- The last line, which is written only if there are items.
abbrev pub items_line : List ℕ → List ℕ
items_line [] = []
items_line (item ∷ items) = codes "items:" ++ flat_map item_text (item ∷ items) ++ 10 ∷ []

-- The whole text: one line for each answer, and the line of the items.
abbrev pub text_of : Drawn → List ℕ
text_of drawn = flat_map line_of drawn.answers ++ items_line drawn.items

-- The text that the arguments ask for. The initial items are 0, 1, .. below the count.
abbrev pub text_asked : Asked → List ℕ
text_asked asked =
    text_of (from_seeded asked.generator asked.mode asked.calls (range_with_len 0 asked.count))

-- The exit status of the program.
abbrev pub status_of : Result Unit DrawError → ℕ
status_of (Ok tt) = 0
status_of (Err (BadWord k)) = 2
status_of (Err Memory) = 3
status_of (Err Write) = 4
