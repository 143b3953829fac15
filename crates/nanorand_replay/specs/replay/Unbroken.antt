-- Requests that are delivered without a break: several requests take the same bytes and leave the
-- same state as one request of their total size.
use Rattle.std.specs.Prelude.{◌≡◌, ℕ, ◌+◌, ◌*◌, ◌/◌, List, [], ◌∷◌, ◌++◌, map, take, drop, sum}
use Rattle.std.specs.List.{range_with_len}
use Rattle.nanorand_core.specs.generators.Blocks.{Requests}
use Rattle.nanorand_core.specs.values.Draws.{after_word, next_word, words_from}
use Rattle.nanorand_core.specs.values.Values.{number_of}
use Rattle.nanorand_replay.specs.replay.Asked.{asked}
use Rattle.nanorand_replay.specs.replay.Replay.{replayed}
use Rattle.nanorand_replay.specs.declared.replay.Call.{Call}

module _ {G : Type 0} (requests : Requests G) where
  -- The state after requests of these sizes.
  abbrev pub after_all : G → List ℕ → G
  after_all g [] = g
  after_all g (n ∷ sizes) = after_all (requests.after g n) sizes

  -- The bytes that requests of these sizes take, one after another.
  abbrev pub taken_all : G → List ℕ → List ℕ
  taken_all g [] = []
  taken_all g (n ∷ sizes) = requests.bytes g n ++ taken_all (requests.after g n) sizes

  -- Two requests, and any list of requests, take the same bytes and leave the same state as one
  -- request of their total size. A list of calls leaves the state that one request for all its
  -- bytes leaves.
  pub record IsUnbroken : Type 0 where
    pub two_states : (g : G) (m n : ℕ)
        → requests.after (requests.after g m) n ≡ requests.after g (m + n)
    pub two_takes : (g : G) (m n : ℕ)
        → requests.bytes g m ++ requests.bytes (requests.after g m) n ≡ requests.bytes g (m + n)
    pub all_states : (g : G) (sizes : List ℕ) → after_all g sizes ≡ requests.after g (sum sizes)
    pub all_takes : (g : G) (sizes : List ℕ) → taken_all g sizes ≡ requests.bytes g (sum sizes)
    pub call_states : (g : G) (items : List ℕ) (calls : List Call)
        → (replayed requests g items calls).state ≡ requests.after g (asked requests g items calls)

  -- n words of `bits` bits are drawn one after another. Word i is the number of the i-th group of
  -- bits / 8 bytes in one request for all of them.
  abbrev pub WordsFollow : ℕ → ℕ → G → Type 0
  WordsFollow bits n g =
      let size = bits / 8 in
      words_from (next_word requests bits) (after_word requests bits) n g
      ≡ map (λ i. number_of (take size (drop (i * size) (requests.bytes g (n * size)))))
      (range_with_len 0 n)
