-- A draw takes its number from the front of the words, and the next draw continues after it.
use Rattle.std.proofs.Common.{◌≡◌, ℕ, zero, suc, ◌+◌, ◌≤◌, List, [], ◌∷◌, Option, Some, None, option_map, refl, arith}
use Rattle.std.specs.Fn.{iterate}
use Rattle.std.specs.Option.{option_map_or}
use Rattle.nanorand_core.specs.values.Runs.{named}
use Rattle.nanorand_core.specs.values.Draws.{word_limit, deciding_place, words_from, number_drawn, left_after}
use Rattle.nanorand_fairness.specs.InTurn.{by_word, numbers_from}
use Rattle.nanorand_fairness.proofs.lemmas.DrawLists.{place-first, place-later, decided-first, decided-later}
use Rattle.nanorand_fairness.proofs.lemmas.streams.Words.{words-next}

-- one more word: an index counted from the second word is increased by one
state_later : {G : Type 0} (after : G → G) (left : ℕ) (g : G) (o : Option ℕ)
    → iterate after (option_map_or (λ i. i + 1) (option_map (λ i. i + 1) o) (suc left)) g ≡ iterate after (option_map_or (λ i. i + 1) o left) (after g)
state_later after left g None = refl
state_later after left g (Some i) = let place : i + 1 + 1 ≡ suc (i + 1) = omega arith in rw place refl

module _ {G : Type 0} (word : G → ℕ) (after : G → G) (bits size left : ℕ) (g : G) where
  drawn-first : (k : ℕ) → named bits size (word g) ≡ Some k → number_drawn word after (suc left) bits size g ≡ Some k
  drawn-first k is = rw (words-next word after left g) (decided-first bits size (word g) (words_from word after left (after g)) k is)

  drawn-later : named bits size (word g) ≡ None → number_drawn word after (suc left) bits size g ≡ number_drawn word after left bits size (after g)
  drawn-later is = rw (words-next word after left g) (decided-later bits size (word g) (words_from word after left (after g)) is)

  left-first : (k : ℕ) → named bits size (word g) ≡ Some k → left_after word after (suc left) bits size g ≡ after g
  unfolding left_after
  left-first k is = rw (words-next word after left g, place-first bits size (word g) (words_from word after left (after g)) k is) refl

  left-later : named bits size (word g) ≡ None → left_after word after (suc left) bits size g ≡ left_after word after left bits size (after g)
  unfolding left_after
  left-later is =
      rw (words-next word after left g, place-later bits size (word g) (words_from word after left (after g)) is)
      (state_later after left g (deciding_place bits size (words_from word after left (after g))))

module _ {G : Type 0} (word : G → ℕ) (after : G → G) (bits size : ℕ) (sizes : List ℕ) (more : ℕ) where
  -- the numbers drawn in turn from n words, by a first draw of at most `left` words; at least
  -- `more` words are left for the later draws
  abbrev pub DrawsFirst : ℕ → ℕ → G → Type 0
  DrawsFirst left n g = (m : ℕ) × (more ≤ m) × (numbers_from bits (size ∷ sizes) left (words_from word after n g)
      ≡ by_word (number_drawn word after left bits size g)
      (λ number. number ∷ numbers_from bits sizes word_limit (words_from word after m (left_after word after left bits size g))) [])

  by_first : (left n : ℕ) (g : G) (o : Option ℕ) → named bits size (word g) ≡ o → left + more ≤ n
      → DrawsFirst left n (after g) → DrawsFirst (suc left) (suc n) g
  by_first left n g (Some k) is long rest = (
    n,
    omega arith,
    rw (words-next word after n g, is, drawn-first word after bits size left g k is, left-first word after bits size left g k is) refl,
  )
  by_first left n g None is long rest = (
    rest.0,
    rest.1,
    rw (words-next word after n g, is, drawn-later word after bits size left g is, left-later word after bits size left g is) rest.2,
  )

  pub draws_first : (left n : ℕ) (g : G) → left + more ≤ n → DrawsFirst left n g
  unfolding words_from
  draws_first zero n g long = (n, omega arith, refl)
  draws_first (suc left) zero g long = absurd (omega arith)
  draws_first (suc left) (suc n) g long =
      by_first left n g (named bits size (word g)) refl (omega arith) (draws_first left n (after g) (omega arith))
