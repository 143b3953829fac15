-- Parts of a stream: its draws are numbered from 0 and divided into parts of equal length. A draw
-- is what a `u64` takes: a request of eight bytes.
use Rattle.std.specs.Prelude.{◌≡◌, ℕ, ◌+◌, ◌*◌, ◌<◌, ◌≤◌, ◌⊎◌, List, [], ◌∷◌, slice_set}
use Rattle.std.specs.Fn.{iterate}
use Rattle.std.specs.Int.{div_ceil}
use Rattle.nanorand_core.specs.generators.Blocks.{Requests}
use Rattle.nanorand_core.specs.values.Draws.{after_word, after_words, next_word}
use Rattle.nanorand_core.specs.values.Values.{values_from}

module _ {G : Type 0} (requests : Requests G) where
  -- The state after n draws, made one by one. It does not unfold by itself, because n may be a
  -- large literal.
  unfoldable pub after_draws : ℕ → G → G
  after_draws n g = after_words requests 64 n g

  -- The state at the beginning of part i, if each part has `draws` draws.
  abbrev pub part_at : ℕ → ℕ → G → G
  part_at draws i g = after_draws (i * draws) g

  -- The next n numbers of 64 bits, one for each draw.
  abbrev pub numbers : ℕ → G → List ℕ
  numbers n g = values_from (next_word requests 64) (after_word requests 64) n g

  -- The numbers of part i.
  abbrev pub numbers_of_part : ℕ → G → ℕ → List ℕ
  numbers_of_part draws g i = numbers draws (part_at draws i g)

  -- After a request of n bytes, the generator is at the end of a draw, or a further request of
  -- fewer than eight bytes takes the rest of that draw. Each eight bytes begun advance it by at
  -- most one draw, and it advances by at least one if n is not 0.
  abbrev pub GoesOnward : ℕ → G → Type 0
  GoesOnward n g =
      (m : ℕ) × (rest : ℕ) × (m ≤ div_ceil n 8) × (0 < n → 0 < m) × (rest < 8)
      × ((rest ≡ 0) ⊎ (n + rest ≡ m * 8))
      × (requests.after (requests.after g n) rest ≡ after_draws m g)

  -- Task i runs on a copy of the loop's generator. The loop's generator then jumps `draws` draws
  -- ahead.
  abbrev pub on_a_copy : {T : Type 0} → (ℕ → G → T) → ℕ → ℕ → G → T × G
  on_a_copy task draws i g = (task i g, after_draws draws g)

-- Below the period nothing occurs twice: if `seen` is equal at two indices, the indices are equal.
abbrev pub NothingTwice : {S : Type 0} → ℕ → (ℕ → S) → Type 0
NothingTwice period seen =
    (m n : ℕ) → m < period → n < period → seen m ≡ seen n → m ≡ n

-- From some index within the first period on, everything occurs again `period` indices later. So
-- the period is at least 1.
abbrev pub ComesAgain : {S : Type 0} → ℕ → (ℕ → S) → Type 0
ComesAgain period seen =
    (start : ℕ) × (start < period) × ((n : ℕ) → start ≤ n → seen (n + period) ≡ seen n)

-- Parts that together stay within the period do not overlap: if `seen` is equal for draw j of part
-- i and draw l of part k, they are the same draw of the same part.
abbrev pub PartsAreApart : {S : Type 0} → ℕ → (ℕ → S) → Type 0
PartsAreApart period seen =
    (parts draws i j k l : ℕ) → parts * draws ≤ period → i < parts → k < parts → j < draws
    → l < draws
    → seen (i * draws + j) ≡ seen (k * draws + l) → (i ≡ k) × (j ≡ l)

-- The results after tasks have run by a schedule, a list of indices: the task of an index writes
-- the result of that index, and overwrites the old one. `own` is what each task writes.
abbrev pub results_after : {T : Type 0} → (ℕ → T) → List ℕ → List T → List T
results_after own [] results = results
results_after own (i ∷ schedule) results = results_after own schedule (slice_set results i (own i))

-- Tasks that run one after another over one generator. Task i gives a result, and the state that it
-- leaves to the next task. A turn is the index of a task and the state from which it begins.
abbrev pub next_turn : {G T : Type 0} → (ℕ → G → T × G) → ℕ × G → ℕ × G
next_turn task turn = (turn.0 + 1, (task turn.0 turn.1).1)

-- The results of the first n tasks.
abbrev pub results_in_turn : {G T : Type 0} → (ℕ → G → T × G) → ℕ → G → List T
results_in_turn task n g = values_from (λ turn. (task turn.0 turn.1).0) (next_turn task) n (0, g)

-- The state that these n tasks leave.
abbrev pub left_in_turn : {G T : Type 0} → (ℕ → G → T × G) → ℕ → G → G
left_in_turn task n g = (iterate (next_turn task) n (0, g)).1
