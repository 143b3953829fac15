-- Exchanging two runs word by word, while numbers are drawn in turn.
use Rattle.std.proofs.Common.{◌≡◌, ℕ, zero, suc, ◌<◌, ◌^◌, Bool, true, false, List, [], ◌∷◌, length, map, Option, Some}
use Rattle.std.proofs.Common.{None, option_map, slice_index, refl, sym, ◌∙◌, ap, arith}
use Rattle.std.specs.List.{All}
use Rattle.std.proofs.lemmas.List.Elements.{All-nil, All-cons, All-head, All-tail, All-same}
use Rattle.nanorand_core.specs.values.Runs.{IsWordWidth, named}
use Rattle.nanorand_core.specs.values.Draws.{decided, word_limit}
use Rattle.nanorand_core.specs.values.Fairness.{NoNumberIsPreferred, SwapsRuns, swapped_word, swapped_number}
use Rattle.nanorand_fairness.specs.InTurn.{Exchange, IsExchange, SwapsInTurn, numbers_from, deciding_from, swapped_from, swapped_numbers}
use Rattle.nanorand_fairness.proofs.lemmas.DrawLists.{decided-first, decided-later}

-- a draw from one word
decided_one : (bits size word : ℕ) (o : Option ℕ) → named bits size word ≡ o → decided bits size (word ∷ []) ≡ named bits size word
decided_one bits size word None is = decided-later bits size word [] is ∙ sym is
decided_one bits size word (Some k) is = decided-first bits size word [] k is ∙ sym is

-- a word of `bits` bits
abbrev IsWord : ℕ → ℕ → Type 0
IsWord bits word = word < 2 ^ bits

abbrev sizes_of : List Exchange → List ℕ
sizes_of exchanges = map (λ e. e.size) exchanges

-- the law, if the first draw may take `left` more words
record Swaps (bits : ℕ) (exchanges : List Exchange) (left : ℕ) (words : List ℕ) : Type 0 where
  pub fits : All (IsWord bits) words → All (IsWord bits) (swapped_from bits exchanges left words)
  pub keeps_length : length (swapped_from bits exchanges left words) ≡ length words
  pub back : swapped_from bits exchanges left (swapped_from bits exchanges left words) ≡ words
  pub deciding : deciding_from bits (sizes_of exchanges) left (swapped_from bits exchanges left words) ≡ deciding_from bits (sizes_of exchanges) left words
  pub numbers : numbers_from bits (sizes_of exchanges) left (swapped_from bits exchanges left words)
      ≡ swapped_numbers exchanges (numbers_from bits (sizes_of exchanges) left words)

module _ (preferred : NoNumberIsPreferred) (bits : ℕ) (width : IsWordWidth bits) where
  -- one word
  module _ (e : Exchange) (can : IsExchange bits e) (word : ℕ) where
    abbrev swapped : ℕ
    swapped = swapped_word bits e.size e.one e.other word

    alone : (w : ℕ) → SwapsRuns bits e.size e.one e.other (w ∷ [])
    alone w = preferred bits e.size e.one e.other width (omega (arith, can.one)) can.fits can.one can.other (w ∷ [])

    word-fits : word < 2 ^ bits → swapped < 2 ^ bits
    word-fits low = All-head (IsWord bits) swapped [] ((alone word).fits (All-cons (IsWord bits) word [] low (All-nil (IsWord bits))))

    word-back : swapped_word bits e.size e.one e.other swapped ≡ word
    word-back = ap (λ (words : List ℕ). slice_index words 0) (alone word).back

    word-named : (o : Option ℕ) → named bits e.size word ≡ o → named bits e.size swapped ≡ option_map (swapped_number e.one e.other) o
    word-named o is =
        sym (decided_one bits e.size swapped (named bits e.size swapped) refl) ∙ (alone word).result
        ∙ ap (option_map (swapped_number e.one e.other)) (decided_one bits e.size word o is ∙ is)

    -- the words still have `bits` bits, if the rest of them does
    fits_both : (exchanges : List Exchange) (left : ℕ) (words rest : List ℕ) → swapped_from bits (e ∷ exchanges) (suc left) (word ∷ words) ≡ swapped ∷ rest
        → All (IsWord bits) (word ∷ words) → (All (IsWord bits) words → All (IsWord bits) rest)
        → All (IsWord bits) (swapped_from bits (e ∷ exchanges) (suc left) (word ∷ words))
    fits_both exchanges left words rest is all later =
        All-same (IsWord bits) (swapped_from bits (e ∷ exchanges) (suc left) (word ∷ words)) (swapped ∷ rest) is
        (All-cons (IsWord bits) swapped rest (word-fits (All-head (IsWord bits) word words all))
        (later (All-tail (IsWord bits) word words all)))

    -- after a rejected word the same draw continues; after a word that names a number the next draw
    -- begins
    with_word : (exchanges : List Exchange) (left : ℕ) (words : List ℕ) (o : Option ℕ) → named bits e.size word ≡ o
        → Swaps bits (e ∷ exchanges) left words → Swaps bits exchanges word_limit words → Swaps bits (e ∷ exchanges) (suc left) (word ∷ words)
    with_word exchanges left words None is again next =
        let now = word-named None is in
        record {
          fits = λ all. fits_both exchanges left words (swapped_from bits (e ∷ exchanges) left words) (rw is refl) all again.fits;
          keeps_length = rw is (ap (λ (n : ℕ). suc n) again.keeps_length);
          back = rw (is, now, word-back) (ap (λ (ws : List ℕ). word ∷ ws) again.back);
          deciding = rw (is, now) (ap (λ (ds : List Bool). false ∷ ds) again.deciding);
          numbers = rw (is, now) again.numbers;
        }
    with_word exchanges left words (Some k) is again next =
        let now = word-named (Some k) is in
        record {
          fits = λ all. fits_both exchanges left words (swapped_from bits exchanges word_limit words) (rw is refl) all next.fits;
          keeps_length = rw is (ap (λ (n : ℕ). suc n) next.keeps_length);
          back = rw (is, now, word-back) (ap (λ (ws : List ℕ). word ∷ ws) next.back);
          deciding = rw (is, now) (ap (λ (ds : List Bool). true ∷ ds) next.deciding);
          numbers = rw (is, now) (ap (λ (ns : List ℕ). swapped_number e.one e.other k ∷ ns) next.numbers);
        }

  -- by induction on the words
  swaps_from : (exchanges : List Exchange) (left : ℕ) (words : List ℕ) → All (IsExchange bits) exchanges → Swaps bits exchanges left words
  swaps_from [] left words can = record { fits = λ all. all; keeps_length = refl; back = refl; deciding = refl; numbers = refl }
  swaps_from (e ∷ exchanges) zero words can = record { fits = λ all. all; keeps_length = refl; back = refl; deciding = refl; numbers = refl }
  swaps_from (e ∷ exchanges) (suc left) [] can = record { fits = λ all. all; keeps_length = refl; back = refl; deciding = refl; numbers = refl }
  swaps_from (e ∷ exchanges) (suc left) (word ∷ words) can =
      with_word e (All-head (IsExchange bits) e exchanges can) word exchanges left words (named bits e.size word) refl
      (swaps_from (e ∷ exchanges) left words can) (swaps_from exchanges word_limit words (All-tail (IsExchange bits) e exchanges can))

  pub swaps_in_turn : (exchanges : List Exchange) (words : List ℕ) → All (IsExchange bits) exchanges → SwapsInTurn bits exchanges words
  swaps_in_turn exchanges words can =
      let all = swaps_from exchanges word_limit words can in
      record { fits = all.fits; keeps_length = all.keeps_length; back = all.back; deciding = all.deciding; numbers = all.numbers }
