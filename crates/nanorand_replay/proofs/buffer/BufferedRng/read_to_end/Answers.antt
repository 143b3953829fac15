use Rattle.std.proofs.Common.{◌≡◌, ◌≢◌, ◌+◌, ◌-◌, ◌<◌, ◌≤◌, ℕ, List, [], length, take, drop, length-drop, ap, refl, arith, ◌∙◌}
use Rattle.std.proofs.lemmas.List.{take_rest, drop_all}
use Rattle.std.proofs.lemmas.Result.{err_from_is_err_and}
use Rattle.nanorand_replay.specs.generators.Buffered.{Buffered, buffer_of}
use Rattle.nanorand_replay.proofs.buffer.BufferedRng.read_to_end.Goals as goal

-- The number of the bytes from the cursor on.
rest_length : (block rest : List ℕ) (cursor output : ℕ) → drop cursor block ≡ rest → length block ≡ output → output - cursor ≡ length rest
rest_length block rest cursor output is told = rw (← is, length-drop, told) refl

-- If there are such bytes, the rest is not empty.
some_rest : (block rest : List ℕ) (cursor output : ℕ) → drop cursor block ≡ rest → length block ≡ output → output - cursor ≢ 0 → rest ≢ []
some_rest block rest cursor output is told some none = some (rest_length block rest cursor output is told ∙ ap length none)

-- If the vector has room for them, its capacity is not too small for them.
no_room : (block : List ℕ) (cursor output len capacity : ℕ) → length block ≡ output
    → len + (output - cursor) ≤ capacity → capacity < len + length (take (length block - cursor) (drop cursor block))
    → ⊥
no_room block cursor output len capacity told room full = omega (arith, ap length (take_rest block cursor), length-drop cursor block)

pub returns-clause-count : goal.returns-clause-count
returns-clause-count g c =
    rest_length c.self.inside.block c.args.self.now.rest c.self.inside.cursor g.row.OUTPUT
    (ap (λ (b : Buffered g.row.G.Denot). b.rest) c.self.view_is) c.self.told

pub returns-clause-rest : goal.returns-clause-rest
returns-clause-rest g c =
    let none = drop_all g.row.OUTPUT c.self.inside.block (omega (arith, c.self.told)) in
    λ i. buffer_of (none i) (c.self.view_is i).inner

pub returns-clause-untouched : goal.returns-clause-untouched
returns-clause-untouched g c = λ none.
    absurd (some_rest c.self.inside.block c.args.self.now.rest c.self.inside.cursor g.row.OUTPUT
    (ap (λ (b : Buffered g.row.G.Denot). b.rest) c.self.view_is) c.self.told (omega arith) none)

pub returns-in_err-reserve : goal.returns-in_err-reserve
returns-in_err-reserve g c =
    let made = (err_from_is_err_and c.from_residual.result c.from_residual.ensures.1).1 in
    let kept = ap (λ (b : Buffered g.row.G.Denot). b.rest) c.self.view_is in
    let count = rest_length c.self.inside.block c.args.self.now.rest c.self.inside.cursor g.row.OUTPUT kept c.self.told in
    let some = some_rest c.self.inside.block c.args.self.now.rest c.self.inside.cursor g.row.OUTPUT kept c.self.told (omega arith) in
    record {
      count = rw made tt;
      appended = rw made tt;
      rest = rw made tt;
      vector_stays = rw made c.in_err-reserve.ensures.items;
      capacity_stays = rw made c.in_err-reserve.ensures.err;
      buffer_stays = rw made refl;
      full = rw (made, ← count) c.in_err-reserve.ensures.full;
      empty = λ none. absurd (some none);
      untouched = λ none. absurd (some none);
    }

pub returns-in_err-extend_from_slice : goal.returns-in_err-extend_from_slice
returns-in_err-extend_from_slice g c =
    absurd (no_room c.self.inside.block c.self.inside.cursor g.row.OUTPUT _ _ c.self.told c.in_ok-reserve.ensures.ok c.in_err-extend_from_slice.ensures.full)
