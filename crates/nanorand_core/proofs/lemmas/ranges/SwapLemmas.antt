-- Exchanging two runs in a list of words.
use Rattle.std.proofs.Common.{◌≡◌, ℕ, ◌+◌, ◌-◌, ◌^◌, ◌<◌, ◌≤◌, Bool, false, not, List, [], ◌∷◌, Option, Some, None}
use Rattle.std.proofs.Common.{is_some, map, position, option_map, option_and_then, slice_index, nat_eq, refl, sym, ◌∙◌}
use Rattle.std.proofs.Common.{ap, inl, inr, arith}
use Rattle.std.specs.List.{prefix_len, position_or_len}
use Rattle.std.proofs.lemmas.Bool.{cases_Bool, eq-eqb, ne_eqb, false≢true}
use Rattle.std.proofs.lemmas.List.{length-map, get_or-map}
use Rattle.std.proofs.lemmas.List.Quantifiers.{position-Some}
use Rattle.nanorand_core.specs.values.Runs.{Names, named, is_in_run, first_word}
use Rattle.nanorand_core.specs.values.Draws.{deciding_place}
use Rattle.nanorand_core.specs.values.Fairness.{SwapsRuns, swapped_word, swapped_number}
use Rattle.nanorand_core.proofs.lemmas.ranges.RunLemmas.{Names-unique, named-Some, Some-named, in_run-Names, Names-in_run}
use Rattle.std.proofs.lemmas.List.Elements.{All-map}
use Rattle.nanorand_core.proofs.lemmas.ranges.FairnessLemmas.{shares}

-- a word of one run, moved to the same offset in another
moved : (bits size word j k : ℕ) → k < size → Names bits size word j
    → Names bits size (first_word bits size k + (word - first_word bits size j)) k
moved bits size word j k low h = record {
  below = low;
  after_first = omega arith;
  before_end = omega (arith, h.after_first, h.before_end);
}

-- two different numbers are not equal by the test
number-test : (j n : ℕ) → ((j ≡ n) → ⊥) → nat_eq n j ≡ false
number-test j n differ = ne_eqb n j (λ same. differ (sym same))

-- tests that agree through f have the same first index
prefix_len-map : {X Y : Type 0} (f : X → Y) (p : Y → Bool) (q : X → Bool) → ((x : X) → p (f x) ≡ q x)
    → (xs : List X) → prefix_len p (map f xs) ≡ prefix_len q xs
prefix_len-map f p q agree [] = refl
prefix_len-map f p q agree (x ∷ xs) = rw (agree x, prefix_len-map f p q agree xs) refl

position-map : {X Y : Type 0} (f : X → Y) (p : Y → Bool) (q : X → Bool) → ((x : X) → p (f x) ≡ q x)
    → (xs : List X) → position p (map f xs) ≡ position q xs
position-map f p q agree xs =
    let same : position_or_len p (map f xs) ≡ position_or_len q xs =
    prefix_len-map f (λ y. not (p y)) (λ x. not (q x)) (λ x. ap not (agree x)) xs in
    rw (same, length-map xs f) refl

is_some-map : {X Y : Type 0} (f : X → Y) (o : Option X) → is_some (option_map f o) ≡ is_some o
is_some-map f None = refl
is_some-map f (Some x) = refl

-- one word after the exchange
module _ (bits size j k : ℕ) (some : 1 ≤ size) (fits : size ≤ 2 ^ bits) (j_low : j < size) (k_low : k < size) where
  at_j : (word : ℕ) → Names bits size word j → swapped_word bits size j k word ≡ first_word bits size k + (word - first_word bits size j)
  at_j word h = rw (Names-in_run bits size word j h) refl

  at_k : (word : ℕ) → Names bits size word k → swapped_word bits size j k word ≡ first_word bits size j + (word - first_word bits size k)
  at_k word h =
      elim (cases_Bool (is_in_run bits size word j)) [
        | inl in_j ↦
            let same : j ≡ k = Names-unique bits size word j k some (in_run-Names bits size word j j_low in_j) h in
            rw (in_j, same) refl
        | inr not_j ↦ rw (not_j, Names-in_run bits size word k h) refl
      ]

  swapped-back : (word : ℕ) → swapped_word bits size j k (swapped_word bits size j k word) ≡ word
  swapped-back word =
      elim (cases_Bool (is_in_run bits size word j)) [
        | inl in_j ↦
            let was = in_run-Names bits size word j j_low in_j in
            ap (swapped_word bits size j k) (at_j word was) ∙ at_k _ (moved bits size word j k k_low was) ∙ omega (arith, was.after_first)
        | inr not_j ↦ elim (cases_Bool (is_in_run bits size word k)) [
          | inl in_k ↦
              let was = in_run-Names bits size word k k_low in_k in
              ap (swapped_word bits size j k) (at_k word was) ∙ at_j _ (moved bits size word k j j_low was) ∙ omega (arith, was.after_first)
          | inr not_k ↦ rw (not_j, not_k) (rw (not_j, not_k) refl)
        ]
      ]

  list-back : (words : List ℕ) → map (swapped_word bits size j k) (map (swapped_word bits size j k) words) ≡ words
  list-back [] = refl
  list-back (word ∷ words) = rw (swapped-back word, list-back words) refl

  swapped-fits : (word : ℕ) → word < 2 ^ bits → swapped_word bits size j k word < 2 ^ bits
  swapped-fits word low =
      let within = (shares bits size some fits).within in
      elim (cases_Bool (is_in_run bits size word j)) [
        | inl in_j ↦
            let was = in_run-Names bits size word j j_low in_j in
            rw in_j (omega (arith, (moved bits size word j k k_low was).before_end, within k k_low))
        | inr not_j ↦ elim (cases_Bool (is_in_run bits size word k)) [
          | inl in_k ↦
              let was = in_run-Names bits size word k k_low in_k in
              rw (not_j, in_k) (omega (arith, (moved bits size word k j j_low was).before_end, within j j_low))
          | inr not_k ↦ rw (not_j, not_k) low
        ]
      ]

  -- a word in neither run names another number, or none
  kept : (word : ℕ) → is_in_run bits size word j ≡ false → is_in_run bits size word k ≡ false
      → (o : Option ℕ) → named bits size word ≡ o → named bits size word ≡ option_map (swapped_number j k) (named bits size word)
  kept word not_j not_k None is = rw is refl
  kept word not_j not_k (Some n) is =
      let in_n = Names-in_run bits size word n (Some-named bits size word n is) in
      let other_j : (j ≡ n) → ⊥ = λ same. false≢true (sym not_j ∙ ap (is_in_run bits size word) same ∙ in_n) in
      let other_k : (k ≡ n) → ⊥ = λ same. false≢true (sym not_k ∙ ap (is_in_run bits size word) same ∙ in_n) in
      rw (is, number-test j n other_j, number-test k n other_k) refl

  named-swapped : (word : ℕ)
      → named bits size (swapped_word bits size j k word) ≡ option_map (swapped_number j k) (named bits size word)
  named-swapped word =
      elim (cases_Bool (is_in_run bits size word j)) [
        | inl in_j ↦
            let was = in_run-Names bits size word j j_low in_j in
            let now = moved bits size word j k k_low was in
            rw (in_j, named-Some bits size word j some was, eq-eqb j j refl)
            (named-Some bits size (first_word bits size k + (word - first_word bits size j)) k some now)
        | inr not_j ↦ elim (cases_Bool (is_in_run bits size word k)) [
          | inl in_k ↦
              let was = in_run-Names bits size word k k_low in_k in
              let now = moved bits size word k j j_low was in
              let differ : (j ≡ k) → ⊥ = λ same. false≢true (sym not_j ∙ ap (is_in_run bits size word) same ∙ in_k) in
              rw (not_j, in_k, named-Some bits size word k some was, number-test j k differ, eq-eqb k k refl)
              (named-Some bits size (first_word bits size j + (word - first_word bits size k)) j some now)
          | inr not_k ↦ rw (not_j, not_k) (kept word not_j not_k (named bits size word) refl)
        ]
      ]

  same-place : (words : List ℕ) → deciding_place bits size (map (swapped_word bits size j k) words) ≡ deciding_place bits size words
  same-place words =
      position-map (swapped_word bits size j k) (λ w. is_some (named bits size w)) (λ w. is_some (named bits size w))
      (λ w. ap is_some (named-swapped w) ∙ is_some-map (swapped_number j k) (named bits size w)) words

  result-at : (words : List ℕ) (place : Option ℕ) → deciding_place bits size words ≡ place
      → option_and_then (λ i. named bits size (slice_index (map (swapped_word bits size j k) words) i)) place
      ≡ option_map (swapped_number j k) (option_and_then (λ i. named bits size (slice_index words i)) place)
  result-at words None is = refl
  result-at words (Some i) is =
      let found = position-Some (λ w. is_some (named bits size w)) words i 0 is in
      rw (get_or-map (swapped_word bits size j k) words i 0 0 found.0) (named-swapped (slice_index words i))

  pub swaps : (words : List ℕ) → SwapsRuns bits size j k words
  swaps words = record {
    fits = λ all. All-map (λ word. word < 2 ^ bits) (swapped_word bits size j k) words (λ i d within. swapped-fits _ (all i d within));
    back = list-back words;
    place = same-place words;
    result = rw (same-place words) (result-at words (deciding_place bits size words) refl);
  }
