-- A reservoir while it runs: what it holds after each item, and when a draw returns an error.
use Rattle.std.proofs.Common.{◌≡◌, ◌≢◌, ℕ, zero, suc, ◌+◌, ◌-◌, ◌*◌, ◌<◌, ◌≤◌, min, Bool, true, List, [], ◌∷◌, ◌++◌, length, get_or, set}
use Rattle.std.proofs.Common.{drop, take, slice_get, Result, Ok, Err, Some, inl, inr, refl, sym, ◌∙◌, ap, subst, arith, length-append, append_assoc, append-nil, add-zero, add-one, zero-add}
use Rattle.std.specs.Option.{IfSome}
use Rattle.std.specs.Result.{result_unwrap_or}
use Rattle.std.specs.List.{All, AllPairs, Contains, range_with_len}
use Rattle.std.proofs.Math.Seq.{get_or-append_seam, set-append_seam, take-append_seam}
use Rattle.std.proofs.lemmas.Bool.{cases_eq}
use Rattle.std.proofs.lemmas.List.{get_or_append_left, get_or-set_same, get_or-set_other, length-set, drop_more, drop_all}
use Rattle.std.proofs.lemmas.List.Elements.{All-cons, All-push, All-set, All-weaker, Contains-get_or, filter_map-append}
use Rattle.std.proofs.lemmas.List.Quantifiers.{all_pairs_push}
use Rattle.std.proofs.lemmas.Option.{slice_get-get_or}
use Rattle.nanorand_core.specs.generators.Blocks.{Requests}
use Rattle.nanorand_core.specs.samples.Samples.{number_up_to}
use Rattle.nanorand_core.specs.samples.Reservoir.{Pass, items_at, draws, passed, reservoir}
use Rattle.nanorand_core.specs.values.Draws.{word_limit, after_word, after_words}
use Rattle.nanorand_core.proofs.lemmas.SampleLemmas.{words_more}
use Rattle.nanorand_core.specs.declared.values.range.RangeError.{RangeError}

-- the numbers from a on, extended by one
range-more : (a n : ℕ) → range_with_len a (suc n) ≡ range_with_len a n ++ (a + n) ∷ []
range-more a zero = rw add-zero refl
range-more a (suc n) =
    let last : a + suc n ≡ a + 1 + n = omega arith in
    rw last (ap (λ (numbers : List ℕ). a ∷ numbers) (range-more (a + 1) n))

range-push : (n : ℕ) → range_with_len 0 (n + 1) ≡ range_with_len 0 n ++ n ∷ []
range-push n = rw add-one (range-more 0 n ∙ rw zero-add refl)

module _ {A : Type 0} (items : List A) (x : A) where
  -- another item changes none of the items with earlier numbers
  items-more : (numbers : List ℕ) → All (λ i. i < length items) numbers → items_at (items ++ x ∷ []) numbers ≡ items_at items numbers
  items-more [] below = refl
  items-more (i ∷ numbers) below =
      let within : i < length items = below 0 i (omega arith) in
      let longer = length-append items (x ∷ []) in
      let rest = items-more numbers (λ k d inside. below (suc k) d (omega arith)) in
      rw (slice_get-get_or items i x within, slice_get-get_or (items ++ x ∷ []) i x (omega arith), get_or_append_left items (x ∷ []) x i within)
      (ap (λ (ys : List A). get_or items i x ∷ ys) rest)

  last-item : slice_get (items ++ x ∷ []) (length items) ≡ Some x
  last-item =
      let longer = length-append items (x ∷ []) in
      slice_get-get_or (items ++ x ∷ []) (length items) x (omega arith) ∙ ap (λ (y : A). Some y) (get_or-append_seam items x [] x)

  -- the new item fills the next slot
  items-push : (numbers : List ℕ) → All (λ i. i < length items) numbers
      → items_at (items ++ x ∷ []) (numbers ++ length items ∷ []) ≡ items_at items numbers ++ x ∷ []
  items-push numbers below =
      filter_map-append (slice_get (items ++ x ∷ [])) numbers (length items ∷ [])
      ∙ rw (last-item, items-more numbers below) refl

  -- or it replaces an item
  items-set : (numbers : List ℕ) (slot : ℕ) → All (λ i. i < length items) numbers
      → items_at (items ++ x ∷ []) (set numbers slot (length items)) ≡ set (items_at items numbers) slot x
  items-set [] slot below = refl
  items-set (i ∷ numbers) zero below =
      let within : i < length items = below 0 i (omega arith) in
      rw (last-item, slice_get-get_or items i x within)
      (ap (λ (ys : List A). x ∷ ys) (items-more numbers (λ k d inside. below (suc k) d (omega arith))))
  items-set (i ∷ numbers) (suc slot) below =
      let within : i < length items = below 0 i (omega arith) in
      let longer = length-append items (x ∷ []) in
      rw (slice_get-get_or items i x within, slice_get-get_or (items ++ x ∷ []) i x (omega arith), get_or_append_left items (x ∷ []) x i within)
      (ap (λ (ys : List A). get_or items i x ∷ ys) (items-set numbers slot (λ k d inside. below (suc k) d (omega arith))))

length-items : {A : Type 0} (items : List A) (numbers : List ℕ) → All (λ i. i < length items) numbers → length (items_at items numbers) ≡ length numbers
length-items [] [] below = refl
length-items [] (i ∷ numbers) below = absurd (let within = below 0 i (omega arith) in omega arith)
length-items (x ∷ items) [] below = refl
length-items (x ∷ items) (i ∷ numbers) below =
    let within : i < length (x ∷ items) = below 0 i (omega arith) in
    let rest = length-items (x ∷ items) numbers (λ k d inside. below (suc k) d (omega arith)) in
    rw (slice_get-get_or (x ∷ items) i x within) (ap suc rest)

-- the filled slots hold items that were given
items-contained : {A : Type 0} (items : List A) (numbers : List ℕ) → All (λ i. i < length items) numbers → All (Contains items) (items_at items numbers)
items-contained items [] below = λ k d inside. absurd (omega arith)
items-contained [] (i ∷ numbers) below = absurd (let within = below 0 i (omega arith) in omega arith)
items-contained (x ∷ items) (i ∷ numbers) below =
    let within : i < length (x ∷ items) = below 0 i (omega arith) in
    let rest = items-contained (x ∷ items) numbers (λ k d inside. below (suc k) d (omega arith)) in
    rw (slice_get-get_or (x ∷ items) i x within)
    (All-cons (Contains (x ∷ items)) (get_or (x ∷ items) i x) (items_at (x ∷ items) numbers) (Contains-get_or (x ∷ items) i x within) rest)

pub members : {A : Type 0} (items behind slots : List A) (numbers : List ℕ) (n : ℕ) → All (λ i. i < length items) numbers → length numbers ≡ n
    → slots ≡ items_at items numbers ++ behind → All (Contains items) (take n slots)
members items behind slots numbers n below long held =
    let ys = items_at items numbers in
    let front : length ys ≡ n = length-items items numbers below ∙ long in
    rw (held, ← front, take-append_seam ys behind) (items-contained items numbers below)

-- if all items that were given pass a test, so do the filled slots
pub filled_pass : {A : Type 0} (items filled : List A) (test : A → Bool) → ((k : ℕ) → IfSome (slice_get items k) (λ x. test x ≡ true))
    → All (Contains items) filled → All (λ x. test x ≡ true) filled
filled_pass items filled test pass held =
    All-weaker (Contains items) (λ x. test x ≡ true)
    (λ x at. subst (λ y. test y ≡ true) at.2 (rw (slice_get-get_or items at.0 x at.1) at (pass at.0))) filled held

-- replacing a number by one greater than all of them keeps the numbers different
apart-set : (numbers : List ℕ) (slot n : ℕ) → All (λ x. x < n) numbers → AllPairs (λ x y. x ≢ y) numbers
    → AllPairs (λ x y. x ≢ y) (set numbers slot n)
apart-set numbers slot n below apart j k d before within =
    let long = length-set numbers slot n in
    let last : k < length numbers = omega arith in
    let first : j < length numbers = omega arith in
    elim (cases_eq j slot) [
      | inl here ↦
          let other : k ≢ slot = omega arith in
          let low = below k d last in
          rw (here, get_or-set_same numbers slot n d (omega arith), get_or-set_other numbers slot k n d other) (λ same. absurd (omega arith))
      | inr there ↦
          elim (cases_eq k slot) [
            | inl here ↦
                let low = below j d first in
                rw (here, get_or-set_same numbers slot n d (omega arith), get_or-set_other numbers slot j n d there) (λ same. absurd (omega arith))
            | inr other ↦
                rw (get_or-set_other numbers slot j n d there, get_or-set_other numbers slot k n d other) (apart j k d before last)
          ]
    ]

pub unwrapped : {m n : ℕ} → ◌≡◌ {A = Result ℕ RangeError} (Ok m) (Ok n) → m ≡ n
unwrapped same = ap (λ (r : Result ℕ RangeError). result_unwrap_or r 0) same

ok_err : {A : Type 0} {x : A} {refusal : RangeError} → Ok x ≡ Err refusal → ⊥
ok_err same = cc

module _ {G : Type 0} (requests : Requests G) where
  -- a pass so far, with these numbers in the slots
  abbrev so_far : ℕ → List ℕ → G → Pass G
  so_far n numbers g = record { answer = Ok (length numbers); chosen = numbers; taken = n; state = g }

  -- a draw for item n, after a pass that has gone so far
  abbrev one_draw : ℕ → List ℕ → G → Pass G
  one_draw n numbers g =
      draws n (number_up_to requests n g).0 numbers (number_up_to requests n g).1 (λ sample. so_far (n + 1) sample (number_up_to requests n g).1)

  abbrev Continues : ℕ → Type 0
  Continues left = (i n : ℕ) (g h : G) (chosen numbers : List ℕ) → i + left ≡ n
      → passed requests i left g chosen ≡ so_far n numbers h → passed requests i (suc left) g chosen ≡ one_draw n numbers h

  -- a pass that has gone so far continues with a draw
  first-more : Continues 0
  first-more i n g h chosen numbers place before =
      let same : chosen ≡ numbers = ap (λ (p : Pass G). p.chosen) before in
      let state : g ≡ h = ap (λ (p : Pass G). p.state) before in
      let number : i ≡ n = ap (λ (p : Pass G). p.taken) before in
      rw (same, state, number) refl

  drawn-more : (left : ℕ) → Continues left → (i n : ℕ) (g h : G) (chosen numbers : List ℕ) (o : Result ℕ RangeError) → (number_up_to requests i g).0 ≡ o
      → i + suc left ≡ n → passed requests i (suc left) g chosen ≡ so_far n numbers h → passed requests i (suc (suc left)) g chosen ≡ one_draw n numbers h
  drawn-more left rest i n g h chosen numbers (Ok slot) is place before =
      rw is (rest (i + 1) n (number_up_to requests i g).1 h (set chosen slot i) numbers (omega arith) (rw is at before))
  drawn-more left rest i n g h chosen numbers (Err refusal) is place before =
      absurd (ok_err (ap (λ (p : Pass G). p.answer) (sym (rw is at before))))

  passed-more : (left : ℕ) → Continues left
  passed-more zero = first-more
  passed-more (suc left) = λ i n g h chosen numbers place before.
      drawn-more left (passed-more left) i n g h chosen numbers (number_up_to requests i g).0 refl place before

  module _ {A : Type 0} (start : G) (old : List A) where
    -- what a reservoir holds after these n items: those of these numbers are in its slots
    pub record Holds (items slots : List A) (n : ℕ) (g : G) (numbers : List ℕ) : Type 0 where
      pub pass : reservoir requests (length old) n start ≡ so_far n numbers g
      pub long : length numbers ≡ min (length old) n
      pub held : slots ≡ items_at items numbers ++ drop (length numbers) old
      pub below : All (λ number. number < n) numbers
      pub apart : AllPairs (λ number other. number ≢ other) numbers
      pub words : (m : ℕ) × (m ≤ word_limit * (n - length old)) × (g ≡ after_words requests 64 m start)

    pub holds-nothing : Holds [] old 0 start []
    holds-nothing =
        let low : min (length old) 0 ≡ 0 = omega arith in
        let none : 0 - length old ≡ 0 = omega arith in
        record {
          pass = rw (low, none) refl;
          long = sym low;
          held = refl;
          below = λ k d inside. absurd (omega arith);
          apart = λ j k d before inside. absurd (omega arith);
          words = (0, omega arith, refl);
        }

    module _ {items slots : List A} {g : G} {numbers : List ℕ} (x : A) (h : Holds items slots (length items) g numbers) where
      longer : length (items ++ x ∷ []) ≡ length items + 1
      longer = length-append items (x ∷ [])

      wider : All (λ number. number < length items + 1) numbers
      wider = All-weaker (λ i. i < length items) (λ i. i < length items + 1) (λ i low. omega arith) numbers h.below

      -- the next item fills its slot
      pub holds-filled : length items < length old → Holds (items ++ x ∷ []) (set slots (length items) x) (length (items ++ x ∷ [])) g (numbers ++ length items ∷ [])
      holds-filled room =
          let n : ℕ = length items in
          let ys : List A = items_at items numbers in
          let low : min (length old) n ≡ n = omega arith in
          let none : n - length old ≡ 0 = omega arith in
          let so : record { answer = Ok (length (range_with_len 0 n)); chosen = range_with_len 0 n; taken = n; state = start } ≡ so_far n numbers g =
          rw (low, none) at h.pass in
          let same : range_with_len 0 n ≡ numbers = ap (λ (p : Pass G). p.chosen) so in
          let state : start ≡ g = ap (λ (p : Pass G). p.state) so in
          let next : min (length old) (n + 1) ≡ n + 1 = omega arith in
          let none_left : n + 1 - length old ≡ 0 = omega arith in
          let filled : length numbers ≡ n = h.long ∙ low in
          let more : length (numbers ++ n ∷ []) ≡ n + 1 = length-append numbers (n ∷ []) ∙ omega (arith, filled) in
          let front : length ys ≡ n = length-items items numbers h.below ∙ filled in
          let behind : List A = drop (n + 1) old in
          let P : ℕ → Type 0 = λ m. Holds (items ++ x ∷ []) (set slots n x) m g (numbers ++ n ∷ []) in
          subst P (sym longer) (record {
            pass = rw (next, none_left, range-push n, same, state) refl;
            long = more ∙ sym next;
            held = ap (λ (s : List A). set s n x) (h.held ∙ ap (λ (k : ℕ). ys ++ drop k old) filled ∙ ap (λ (t : List A). ys ++ t) (drop_more old n x room))
                ∙ ap (λ (k : ℕ). set (ys ++ get_or old n x ∷ behind) k x) (sym front) ∙ set-append_seam ys (get_or old n x) behind x
                ∙ sym (append_assoc ys (x ∷ []) behind) ∙ ap (λ (t : List A). t ++ behind) (sym (items-push items x numbers h.below))
                ∙ ap (λ (k : ℕ). items_at (items ++ x ∷ []) (numbers ++ n ∷ []) ++ drop k old) (sym more);
            below = All-push (λ i. i < n + 1) numbers n wider (omega arith);
            apart = all_pairs_push (λ i j. i ≢ j) numbers n h.apart (λ k d inside. let under = h.below k d inside in (λ equal. absurd (omega arith)));
            words = (h.words.0, rw none_left (rw none at h.words.1), h.words.2);
          })

      -- the next item draws
      module _ (full : length old ≤ length items) where
        next-pass : reservoir requests (length old) (length items + 1) start ≡ one_draw (length items) numbers g
        next-pass =
            let n : ℕ = length items in
            let size : ℕ = min (length old) n in
            let same : min (length old) (n + 1) ≡ size = omega arith in
            let more : n + 1 - length old ≡ suc (n - length old) = omega arith in
            rw (same, more) (passed-more (n - length old) size n start g (range_with_len 0 size) numbers (omega arith) h.pass)

        pub holds-replaced : (slot : ℕ) → Ok slot ≡ (number_up_to requests (length items) g).0
            → (k : G) → k ≡ (number_up_to requests (length items) g).1 → (m : ℕ) × (m ≤ word_limit) × (k ≡ after_words requests 64 m g)
            → Holds (items ++ x ∷ []) (set slots slot x) (length (items ++ x ∷ [])) k (set numbers slot (length items))
        holds-replaced slot drawn k left few =
            let n : ℕ = length items in
            let ys : List A = items_at items numbers in
            let same : length (set numbers slot n) ≡ length numbers = length-set numbers slot n in
            let rest : drop (length numbers) old ≡ [] = drop_all (length numbers) old (omega (arith, h.long)) in
            let more : n + 1 - length old ≡ n - length old + 1 = omega arith in
            let P : ℕ → Type 0 = λ m. Holds (items ++ x ∷ []) (set slots slot x) m k (set numbers slot n) in
            subst P (sym longer) (record {
              pass = next-pass ∙ rw (← drawn, left) refl;
              long = same ∙ h.long ∙ omega arith;
              held = rw (same, rest) (ap (λ (s : List A). set s slot x) (rw (rest, append-nil ys) at h.held)
                  ∙ sym (items-set items x numbers slot h.below) ∙ sym (append-nil (items_at (items ++ x ∷ []) (set numbers slot n))));
              below = All-set (λ i. i < n + 1) numbers slot n (omega arith) wider;
              apart = apart-set numbers slot n h.below h.apart;
              words = rw more (words_more (after_word requests 64) word_limit (n - length old) start g k h.words few);
            })

        -- or its draw returns an error
        pub pass-refused : (refusal : RangeError) → Err refusal ≡ (number_up_to requests (length items) g).0
            → (k : G) → k ≡ (number_up_to requests (length items) g).1
            → reservoir requests (length old) (length (items ++ x ∷ [])) start
            ≡ record { answer = Err refusal; chosen = numbers; taken = length (items ++ x ∷ []); state = k }
        pass-refused refusal drawn k left = rw longer (next-pass ∙ rw (← drawn, left) refl)

        pub long-refused : length numbers ≡ min (length old) (length (items ++ x ∷ []))
        long-refused = rw longer (h.long ∙ omega arith)

        pub words-refused : (k : G) → (m : ℕ) × (m ≤ word_limit) × (k ≡ after_words requests 64 m g)
            → (m : ℕ) × (m ≤ word_limit * (length (items ++ x ∷ []) - length old)) × (k ≡ after_words requests 64 m start)
        words-refused k few =
            let more : length items + 1 - length old ≡ length items - length old + 1 = omega arith in
            rw (longer, more) (words_more (after_word requests 64) word_limit (length items - length old) start g k h.words few)

      pub held-longer : slots ≡ items_at (items ++ x ∷ []) numbers ++ drop (length numbers) old
      held-longer = h.held ∙ ap (λ (ys : List A). ys ++ drop (length numbers) old) (sym (items-more items x numbers h.below))

      pub below-longer : All (λ number. number < length (items ++ x ∷ [])) numbers
      below-longer = rw longer wider
