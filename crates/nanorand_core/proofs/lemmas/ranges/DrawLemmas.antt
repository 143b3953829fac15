-- The search for the word that decides a bounded draw.
use Rattle.std.proofs.Common.{◌≡◌, ℕ, ◌+◌, ◌<◌, ◌≤◌, nat_lt, Bool, true, false, List, Option, Some, None, IfSome}
use Rattle.std.proofs.Common.{IfNone, MatchOption, length, get_or, position, is_some, refl, sym, ◌∙◌, ap, inl, inr}
use Rattle.std.proofs.Common.{arith}
use Rattle.std.specs.Fn.{iterate}
use Rattle.std.specs.List.{position_or_len}
use Rattle.std.specs.Option.{option_map_or}
use Rattle.std.proofs.lemmas.Bool.{lt-ltb, le-ltb, cases_lt, cases_Bool, and_parts, ltb-true, ltb-false}
use Rattle.std.proofs.lemmas.List.Sums.{position_or_len_is}
use Rattle.std.proofs.lemmas.List.FromFn.{length-map-range_with_len, get_or-map-range_with_len}
use Rattle.nanorand_core.specs.support.IterateLemmas.{iterate-more}
use Rattle.nanorand_core.specs.values.Runs.{named}
use Rattle.nanorand_core.specs.values.Draws.{deciding_place, words_from, number_drawn, left_after}
use Rattle.nanorand_core.proofs.lemmas.ranges.RunLemmas.{Some-named}
use mathlib.Core.Bool.{not, ◌&&◌}

-- the index of the first element that passes
pub position-is : {X : Type 0} (p : X → Bool) (xs : List X) (i : ℕ) (d : X) → i < length xs
    → ((k : ℕ) → k < i → p (get_or xs k d) ≡ false) → p (get_or xs i d) ≡ true → position p xs ≡ Some i
position-is p xs i d low before here =
    let place : position_or_len p xs ≡ i = position_or_len_is p xs i d (omega arith) before (λ _. here) in
    rw (place, lt-ltb i (length xs) low) refl

pub position-none : {X : Type 0} (p : X → Bool) (xs : List X) (d : X)
    → ((k : ℕ) → k < length xs → p (get_or xs k d) ≡ false) → position p xs ≡ None
position-none p xs d before =
    let place : position_or_len p xs ≡ length xs =
    position_or_len_is p xs (length xs) d (omega arith) before (λ same. absurd (omega arith)) in
    rw (place, le-ltb (length xs) (length xs) (omega arith)) refl

-- at most `limit` words are drawn to reach the first that passes
drawn_words : {X : Type 0} (p : X → Bool) (xs : List X) (limit : ℕ) → length xs ≡ limit → option_map_or (λ i. i + 1) (position p xs) limit ≤ limit
drawn_words p xs limit long =
    elim (cases_Bool (nat_lt (position_or_len p xs) (length xs))) [
      | inl hit ↦ let within = ltb-true _ _ hit in rw hit (omega arith)
      | inr miss ↦ rw miss (omega arith)
    ]

module _ {G : Type 0} (word : G → ℕ) (after : G → G) (limit bits size : ℕ) (g : G) where
  -- i words were drawn, and none of them named a number
  pub record Searching (i : ℕ) (now : G) : Type 0 where
    pub reached : now ≡ iterate after i g
    pub passed : (j : ℕ) → j < i → named bits size (word (iterate after j g)) ≡ None

  -- the draw is over
  pub record Ended (o : Option ℕ) (now : G) : Type 0 where
    pub below : IfSome o (λ k. k < size)
    pub number : o ≡ number_drawn word after limit bits size g
    pub state : now ≡ left_after word after limit bits size g
    pub exhausted : IfNone o (now ≡ iterate after limit g)

  -- the invariant of the search: none of i words named a number, or the last one decided
  abbrev pub Drawn : Option ℕ → ℕ → G → Type 0
  Drawn o i now = (i ≤ limit) × MatchOption o (Searching i now) (λ k. Ended (Some k) now)

  nth_word : (i d : ℕ) → i < limit → get_or (words_from word after limit g) i d ≡ word (iterate after i g)
  unfolding words_from
  nth_word i d low = get_or-map-range_with_len (λ j. word (iterate after j g)) 0 limit i i d low (omega arith)

  word_count : length (words_from word after limit g) ≡ limit
  unfolding words_from
  word_count = length-map-range_with_len (λ j. word (iterate after j g)) 0 limit

  place_found : (i k : ℕ) (now : G) → i < limit → Searching i now → named bits size (word now) ≡ Some k
      → deciding_place bits size (words_from word after limit g) ≡ Some i
  place_found i k now low s hit =
      position-is (λ w. is_some (named bits size w)) (words_from word after limit g) i 0 (omega (arith, word_count))
      (λ j under. let before : j < limit = omega arith in rw (nth_word j 0 before, s.passed j under) refl)
      (rw (nth_word i 0 low, ← s.reached, hit) refl)

  place_missing : (i : ℕ) (now : G) → i ≡ limit → Searching i now → deciding_place bits size (words_from word after limit g) ≡ None
  place_missing i now done s =
      position-none (λ w. is_some (named bits size w)) (words_from word after limit g) 0
      (λ j under. let before : j < limit = omega (arith, word_count) in rw (nth_word j 0 before, s.passed j (omega arith)) refl)

  start : Searching 0 g
  start = record { reached = refl; passed = λ j under. absurd (omega arith) }

  step : (i : ℕ) (now : G) → Searching i now → named bits size (word now) ≡ None → Searching (i + 1) (after now)
  step i now s miss = record {
    reached = ap after s.reached ∙ sym (iterate-more after i g);
    passed = λ j under. elim (cases_lt j i) [
      | inl low ↦ s.passed j low
      | inr high ↦
          let same : j ≡ i = omega arith in
          rw (same, ← s.reached) miss
    ];
  }

  found_number : (i k : ℕ) (now : G) → i < limit → Searching i now → named bits size (word now) ≡ Some k
      → Some k ≡ number_drawn word after limit bits size g
  found_number i k now low s hit =
      rw (place_found i k now low s hit, nth_word i 0 low, ← s.reached) (sym hit)

  found_rest : (i k : ℕ) (now : G) → i < limit → Searching i now → named bits size (word now) ≡ Some k
      → after now ≡ left_after word after limit bits size g
  unfolding left_after
  found_rest i k now low s hit =
      rw (place_found i k now low s hit, s.reached) (sym (iterate-more after i g))

  missing_number : (i : ℕ) (now : G) → i ≡ limit → Searching i now → None ≡ number_drawn word after limit bits size g
  missing_number i now done s = rw (place_missing i now done s) refl

  missing_rest : (i : ℕ) (now : G) → i ≡ limit → Searching i now → now ≡ left_after word after limit bits size g
  unfolding left_after
  missing_rest i now done s = rw (place_missing i now done s, ← done) s.reached

  -- the next word, w, is rejected or decides
  drawn_next : (o : Option ℕ) (i w : ℕ) (now : G) → i < limit → Searching i now → w ≡ word now → named bits size w ≡ o → Drawn o (i + 1) (after now)
  drawn_next None i w now low s drawn miss = (omega arith, step i now s (ap (named bits size) (sym drawn) ∙ miss))
  drawn_next (Some k) i w now low s drawn hit =
      let decides = ap (named bits size) (sym drawn) ∙ hit in (
        omega arith,
        record {
          below = (Some-named bits size w k hit).below;
          number = found_number i k now low s decides;
          state = found_rest i k now low s decides;
          exhausted = tt;
        },
      )

  pub first_word : (o : Option ℕ) (w : ℕ) → 0 < limit → w ≡ word g → named bits size w ≡ o → Drawn o 1 (after g)
  first_word o w some drawn is = drawn_next o 0 w g some start drawn is

  -- another word is drawn if there is no number so far and fewer than `limit` words were drawn
  pub next_word : (o p : Option ℕ) (i w : ℕ) (now : G) (none : Bool) → Drawn o i now → is_some o ≡ not none → (none && nat_lt i limit) ≡ true
      → w ≡ word now → named bits size w ≡ p → Drawn p (i + 1) (after now)
  next_word None p i w now none d is test drawn named_is = drawn_next p i w now (ltb-true _ _ (and_parts _ _ test).1) d.1 drawn named_is
  next_word (Some k) p i w now none d is test drawn named_is = let clash : true ≡ false = is ∙ ap not (and_parts none _ test).0 in absurd cc

  -- otherwise the draw is over
  pub last_word : (o : Option ℕ) (i : ℕ) (now : G) (none : Bool) → Drawn o i now → is_some o ≡ not none → (none && nat_lt i limit) ≡ false → Ended o now
  last_word None i now true d is test =
      let all : i ≡ limit = omega (arith, d.0, ltb-false _ _ test) in
      record {
        below = tt;
        number = missing_number i now all d.1;
        state = missing_rest i now all d.1;
        exhausted = d.1.reached ∙ ap (λ n. iterate after n g) all;
      }
  last_word None i now false d is test = absurd cc
  last_word (Some k) i now none d is test = d.1

  -- the first word ends the draw if it decides
  pub first_decides : (o : Option ℕ) (w : ℕ) (none : Bool) → 0 < limit → w ≡ word g → named bits size w ≡ o
      → is_some o ≡ not none → none ≡ false → Ended o (after g)
  first_decides o w none some drawn named_is is decided =
      last_word o 1 (after g) none (first_word o w some drawn named_is) is (ap (λ b. b && nat_lt 1 limit) decided)

  -- at most `limit` words are drawn
  pub counted_words : (h : G) → h ≡ left_after word after limit bits size g → (n : ℕ) × (n ≤ limit) × (h ≡ iterate after n g)
  unfolding left_after
  counted_words h left = (
    option_map_or (λ i. i + 1) (deciding_place bits size (words_from word after limit g)) limit,
    drawn_words (λ w. is_some (named bits size w)) (words_from word after limit g) limit word_count,
    left,
  )
