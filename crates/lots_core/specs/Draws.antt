-- What a seed draws: its key, its words, and the entrants in the order in which they are drawn.
use Rattle.std.specs.Prelude.{ℕ, List, [], take, replicate}
use Rattle.sha2.specs.Sha256.{sha256}
use Rattle.nanorand_core.specs.generators.Blocks.{Requests}
use Rattle.nanorand_core.specs.shuffles.Arrangements.{rising}
use Rattle.nanorand_core.specs.shuffles.Shuffles.{Shuffle, from_itself, partly_shuffled}
use Rattle.nanorand_replay.specs.generators.Buffered.{Buffered, buffer_of, buffered}
use Rattle.nanorand.specs.generators.ChaCha.{chacha_block, initial_state, next_state}

-- The key of a seed: the SHA-256 of its text.
abbrev pub key_of : List ℕ → List ℕ
key_of seed = sha256 seed

-- The start of a seed's stream: ChaCha with its key, and with the nonce and the counter 0. Nothing
-- is buffered.
abbrev pub start_of : List ℕ → Buffered (List ℕ)
start_of seed = buffer_of [] (initial_state (key_of seed) (replicate 8 0))

-- The requests of the stream: ChaCha with 20 rounds, without gaps between requests.
abbrev pub requests : Requests (Buffered (List ℕ))
requests = buffered (chacha_block 20) next_state 64

-- The draw: the first `count` steps of the shuffle of the entrants. For each place, from 0 up, the
-- entrant there is swapped with the one at a place drawn from this place and all later ones.
abbrev pub drawing : {T : Type 0} → List ℕ → ℕ → List T → Shuffle (Buffered (List ℕ)) T
drawing seed count entrants = partly_shuffled requests from_itself count (start_of seed) entrants

-- The entrants drawn, in the order in which they are drawn.
abbrev pub drawn : {T : Type 0} → List ℕ → ℕ → List T → List T
drawn seed count entrants = take count (drawing seed count entrants).items

-- The places drawn from n places, counted from 0, in the order in which they are drawn.
abbrev pub places_drawn : List ℕ → ℕ → ℕ → List ℕ
places_drawn seed count n = drawn seed count (rising n)
