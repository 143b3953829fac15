use Rattle.std.proofs.Common.{◌≡◌, ℕ, ◌+◌, ◌/◌, ◌%◌, ◌^◌, ap, sym, ◌∙◌, rules, arith, List, [], ◌∷◌}
use Rattle.std.proofs.Common.{slice_index, replicate}
use Rattle.nanorand.specs.generators.ChaCha.{counter, with_counter}
use Rattle.nanorand.specs.generators.ChaChaRounds.{IsMatrix}
use Rattle.nanorand.specs.support.ChaChaRows.{Four, lane}
use Rattle.nanorand.specs.support.ChaChaDrawLemmas.{chacha_closed}
use Rattle.nanorand.proofs.lemmas.chacha.RowLemmas.{below_eight}
use Rattle.nanorand.proofs.lemmas.chacha.ChaChaStateLemmas.{with_counter-halves}
use Rattle.nanorand.proofs.crypto.chacha.eight_blocks.eight_states.Goals as goal

pub returns : goal.returns
returns c j below =
    let x = c.args.x.now in
    let matrix : IsMatrix c.args.x.now = record { sixteen = c.told-x; words = search rules } in
    let first : ℕ = c.counter-first.result in
    let counters : List ℕ =
    first ∷ (first + 1) % 2 ^ 64 ∷ (first + 2) % 2 ^ 64 ∷ (first + 3) % 2 ^ 64 ∷ (first + 4) % 2 ^ 64
    ∷ (first + 5) % 2 ^ 64 ∷ (first + 6) % 2 ^ 64 ∷ (first + 7) % 2 ^ 64 ∷ [] in
    let n : ℕ = slice_index counters j in
    let is_low : slice_index c.map.result j ≡ n % 2 ^ 32 = (c.map.ensures.items.at j 0 0 below).2.met in
    let is_high : slice_index c.map-2.result j ≡ n / 2 ^ 32 = (c.map-2.ensures.items.at j 0 0 below).2.met in
    let same : first ≡ (counter c.args.x.now + 0) % 2 ^ 64 =
    omega (arith, c.counter-first.ensures, c.counter-first.type_inv) in
    let more = λ (k : ℕ). ap (λ (m : ℕ). (m + k) % 2 ^ 64) c.counter-first.ensures in
    let is_counter : n ≡ (counter c.args.x.now + j) % 2 ^ 64 =
    below_eight (λ k. slice_index counters k ≡ (counter c.args.x.now + k) % 2 ^ 64)
    same (more 1) (more 2) (more 3) (more 4) (more 5) (more 6) (more 7) j below in
    let word = λ (k : ℕ). replicate 8 (slice_index x k) in
    let made : Four (Four (List ℕ)) = (
      (word 0, word 1, word 2, word 3),
      (word 4, word 5, word 6, word 7),
      (word 8, word 9, word 10, word 11),
      (c.map.result, c.map-2.result, word 14, word 15),
    ) in
    let halves = λ (low high : ℕ). with_counter-halves x n low high c.told-x in
    rw (
      c.splat_row.ensures,
      c.splat_row-2.ensures,
      c.splat_row-3.ensures,
      c.vector.ensures,
      c.vector-2.ensures,
      c.splat.ensures,
      c.splat-2.ensures,
    )
    (below_eight (λ k. slice_index c.map.result k ≡ n % 2 ^ 32 → slice_index c.map-2.result k ≡ n / 2 ^ 32
    → lane k made ≡ with_counter x n)
    (halves _ _) (halves _ _) (halves _ _) (halves _ _) (halves _ _) (halves _ _) (halves _ _) (halves _ _) j below
    is_low is_high ∙ ap (with_counter x) is_counter ∙ sym (chacha_closed j x matrix))
