-- Parts of a stream: where they begin, that they do not overlap, and what is written by tasks that
-- run on them.
use Rattle.std.proofs.Common.{Result, Ok, Err, IsOk, IfOk, ◌≡◌, ℕ, zero, suc, ◌+◌, ◌*◌, ◌<◌, ◌≤◌, ◌/◌, ◌%◌, ◌⊎◌, inl, inr, List, [], ◌∷◌, ◌++◌, map, length, get_or, set, refl, sym, ◌∙◌, ap, arith, ⊎_elim}
use Rattle.std.proofs.Common.{ext_get_or, get_or-set_other, get_or-set_same, length-set}
use Rattle.std.proofs.lemmas.Bool.{cases_eq, false≢true}
use Rattle.std.proofs.lemmas.List.FromFn.{get_or-map-range_with_len, length-map-range_with_len}
use Rattle.std.proofs.lemmas.Nat.{mul-le, div-mul-add, mod-mul-add}
use Rattle.std.proofs.Math.Nat.{suc-mul, zero-mul}
use Rattle.std.specs.Fn.{iterate}
use Rattle.std.specs.List.{Contains, flat_map, range_with_len}
use Rattle.nanorand_core.specs.generators.Blocks.{Requests}
use Rattle.nanorand_core.specs.support.IterateLemmas.{iterate-add}
use Rattle.nanorand_core.specs.values.Draws.{after_word, next_word}
use Rattle.nanorand_core.specs.values.Values.{values_from}
use Rattle.nanorand.specs.generators.Parts.{NothingTwice, PartsAreApart, after_draws, numbers, part_at, results_after}
use Rattle.nanorand.specs.support.OnwardLemmas.{draws-leave}

-- an index within a part is below the end of all parts
place_below : (parts part end i j : ℕ) → parts * part ≤ end → i < parts → j < part → i * part + j < end
place_below parts part end i j fits one within =
    omega (arith, mul-le (i + 1) part parts part (omega arith) (omega arith))

-- equal indices of the stream are the same index in the same part
same_place : (part i j k l : ℕ) → j < part → l < part → i * part + j ≡ k * part + l → (i ≡ k) × (j ≡ l)
same_place part i j k l first second same = (
  sym (div-mul-add i part j first) ∙ ap (λ (n : ℕ). n / part) same ∙ div-mul-add k part l second,
  sym (mod-mul-add i part j first) ∙ ap (λ (n : ℕ). n % part) same ∙ mod-mul-add k part l second,
)

-- if nothing occurs twice, parts do not overlap
pub parts-apart : {S : Type 0} (period : ℕ) (seen : ℕ → S) → NothingTwice period seen → PartsAreApart period seen
parts-apart period seen once parts draws i j k l fits one other first second same =
    let below : i * draws + j < period = place_below parts draws period i j fits one first in
    let over : k * draws + l < period = place_below parts draws period k l fits other second in
    same_place draws i j k l first second (once (i * draws + j) (k * draws + l) below over same)

-- a fact about every part that exists holds if one exists
pub of_the_part : {A E P : Type 0} (result : Result A E) → IsOk result → IfOk result (λ _. P) → P
of_the_part (Ok part) ok fact = fact
of_the_part (Err refusal) ok fact = absurd (false≢true ok)

-- The numbers of parts that follow each other.
module _ {G : Type 0} (word : G → ℕ) (after : G → G) where
  -- the value at index i is that of the state after i others
  value-at : (n i : ℕ) (g : G) → i < n → get_or (values_from word after n g) i 0 ≡ word (iterate after i g)
  value-at zero i g below = absurd (omega arith)
  value-at (suc n) zero g below = refl
  value-at (suc n) (suc i) g below = value-at n i (after g) (omega arith)

  -- m values and then n are m + n values
  values-add : (m n : ℕ) (g : G) → values_from word after (m + n) g ≡ values_from word after m g ++ values_from word after n (iterate after m g)
  values-add zero n g = ap (λ (k : ℕ). values_from word after k g) (let none : 0 + n ≡ n = omega arith in none)
  values-add (suc m) n g =
      ap (λ (k : ℕ). values_from word after k g) (let one : suc m + n ≡ suc (m + n) = omega arith in one)
      ∙ ap (λ (values : List ℕ). word g ∷ values) (values-add m n (after g))

module _ {G : Type 0} (requests : Requests G) where
  -- m draws and then n draws are m + n draws
  draws-add : (m n : ℕ) (g : G) → after_draws requests n (after_draws requests m g) ≡ after_draws requests (m + n) g
  unfolding after_draws
  draws-add m n g = sym (iterate-add (after_word requests 64) m n g)

  -- the next part begins where a part ends
  pub next-part : (draws i : ℕ) (g : G) → after_draws requests draws (part_at requests draws i g) ≡ part_at requests draws (i + 1) g
  next-part draws i g =
      draws-add (i * draws) draws g
      ∙ ap (λ (n : ℕ). after_draws requests n g) (let more : i * draws + draws ≡ (i + 1) * draws = omega (arith, suc-mul i draws) in more)

  -- number j of a part
  pub number-of-part : (draws i j : ℕ) (g : G) → j < draws
      → get_or (numbers requests draws (part_at requests draws i g)) j 0 ≡ next_word requests 64 (after_draws requests (i * draws + j) g)
  number-of-part draws i j g within =
      value-at (next_word requests 64) (after_word requests 64) draws j (part_at requests draws i g) within
      ∙ ap (next_word requests 64) (sym (draws-leave requests j (part_at requests draws i g)) ∙ draws-add (i * draws) j g)

  -- the numbers of n parts, from part a on
  joined-from : (draws a n : ℕ) (g : G) → flat_map (λ i. numbers requests draws (part_at requests draws i g)) (range_with_len a n)
      ≡ numbers requests (n * draws) (part_at requests draws a g)
  joined-from draws a zero g = rw zero-mul refl
  joined-from draws a (suc n) g =
      let start = part_at requests draws a g in
      let next : iterate (after_word requests 64) draws start ≡ part_at requests draws (a + 1) g =
      sym (draws-leave requests draws start) ∙ next-part draws a g in
      let more : draws + n * draws ≡ suc n * draws = omega (arith, suc-mul n draws) in
      ap (λ (values : List ℕ). numbers requests draws start ++ values)
      (joined-from draws (a + 1) n g ∙ ap (numbers requests (n * draws)) (sym next))
      ∙ sym (values-add (next_word requests 64) (after_word requests 64) draws (n * draws) start)
      ∙ ap (λ (m : ℕ). numbers requests m start) more

  -- the numbers of all parts are those of the stream
  pub parts-joined : (parts draws : ℕ) (g : G) → flat_map (λ i. numbers requests draws (part_at requests draws i g)) (range_with_len 0 parts)
      ≡ numbers requests (parts * draws) g
  parts-joined parts draws g =
      let none : 0 * draws ≡ 0 = omega arith in
      joined-from draws 0 parts g
      ∙ ap (numbers requests (parts * draws)) (ap (λ (n : ℕ). after_draws requests n g) none ∙ draws-leave requests 0 g)

-- What is written by tasks that run by a schedule.
module _ {T : Type 0} (own : ℕ → T) where
  length-results : (schedule : List ℕ) (results : List T) → length (results_after own schedule results) ≡ length results
  length-results [] results = refl
  length-results (i ∷ schedule) results = length-results schedule (set results i (own i)) ∙ length-set results i (own i)

  -- a result that is right, or whose task will still run, remains so after another task has run
  other_runs : (i : ℕ) (schedule : List ℕ) (results : List T) (j : ℕ) (d : T) → (j ≡ i → ⊥)
      → Contains (i ∷ schedule) j ⊎ (get_or results j d ≡ own j) → Contains schedule j ⊎ (get_or (set results i (own i)) j d ≡ own j)
  other_runs i schedule results j d other (inl (zero, within, at)) = absurd (other (sym at))
  other_runs i schedule results j d other (inl (suc k, within, at)) = inl (k, omega arith, at)
  other_runs i schedule results j d other (inr right) = inr (get_or-set_other results i j (own i) d other ∙ right)

  -- a result that was right remains right, and one whose task runs becomes right
  result_right : (schedule : List ℕ) (results : List T) (j : ℕ) (d : T) → j < length results
      → Contains schedule j ⊎ (get_or results j d ≡ own j) → get_or (results_after own schedule results) j d ≡ own j
  result_right [] results j d below (inl (k, within, at)) = absurd (omega arith)
  result_right [] results j d below (inr right) = right
  result_right (i ∷ schedule) results j d below known =
      let room : j < length (set results i (own i)) = omega (arith, length-set results i (own i)) in
      ⊎_elim
      (λ (same : j ≡ i). result_right schedule (set results i (own i)) j d room
      (inr (ap (λ (n : ℕ). get_or (set results i (own i)) n d) same ∙ get_or-set_same results i (own i) d (omega arith) ∙ ap own (sym same))))
      (λ (other : j ≡ i → ⊥). result_right schedule (set results i (own i)) j d room
      (other_runs i schedule results j d other known))
      (cases_eq j i)

  pub in_any_order : (count : ℕ) (schedule : List ℕ) (results : List T) → length results ≡ count
      → ((i : ℕ) → i < count → Contains schedule i) → results_after own schedule results ≡ map own (range_with_len 0 count)
  in_any_order count schedule results long each =
      ext_get_or (own 0) (results_after own schedule results) (map own (range_with_len 0 count))
      (length-results schedule results ∙ long ∙ sym (length-map-range_with_len own 0 count))
      (λ j below.
      let within : j < count = omega (arith, length-results schedule results, long) in
      result_right schedule results j (own 0) (omega (arith, long)) (inl (each j within))
      ∙ sym (get_or-map-range_with_len own 0 count j j (own 0) within (omega arith)))
