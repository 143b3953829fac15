-- Lemmas about blocks drawn in groups. Not needed to understand the contracts: this file is in
-- specs/ only because laws of impls cite its lemmas.
use Rattle.std.proofs.Common.{◌≡◌, ℕ, zero, suc, ◌+◌, ◌-◌, ◌*◌, ◌<◌, ◌≤◌, List, [], ◌++◌, length, take, refl, sym, ap, ◌∙◌, arith}
use Rattle.std.proofs.lemmas.List.{take_at}
use Rattle.std.proofs.Math.Nat.{suc-mul, zero-mul}
use Rattle.std.specs.Fn.{iterate}
use Rattle.nanorand_core.specs.generators.Blocks.{blocks, taken, plain_after}
use Rattle.nanorand_core.specs.support.BlockLemmas.{blocks_add, length-blocks, take_blocks, le-mul_self}
use Rattle.nanorand_core.specs.support.IterateLemmas.{iterate-add}
use Rattle.nanorand_replay.specs.generators.Buffered.{Buffered, buffer_of, blocks_needed, buffered_after}
use Rattle.nanorand_replay.specs.support.BufferedLemmas.{after_add, taken_add}
use Rattle.nanorand.specs.generators.ChaCha.{chacha_block, initial_state, next_state, state_at, with_counter}
use Rattle.nanorand.specs.generators.ChaChaGroups.{chacha_group, next_group, stream_requests, stream_start}
use Rattle.nanorand.specs.support.ChaChaDrawLemmas.{chacha_steps, length-chacha_block, with_counter-after, with_counter-twice}

-- one more group of k
one_more : (n k : ℕ) → k + n * k ≡ suc n * k
one_more n k = omega (arith, suc-mul n k)

-- Blocks in groups of k.
module _ {G : Type 0} (step : G → G) (k : ℕ) where
  -- n groups of k steps are n * k steps
  pub steps_grouped : (g : G) (n : ℕ) → iterate (iterate step k) n g ≡ iterate step (n * k) g
  steps_grouped g zero = rw zero-mul refl
  steps_grouped g (suc n) =
      steps_grouped (iterate step k g) n ∙ sym (iterate-add step k (n * k) g) ∙ ap (λ (m : ℕ). iterate step m g) (one_more n k)

module _ {G : Type 0} (block : G → List ℕ) (step : G → G) (k : ℕ) where
  -- n groups of k blocks are n * k blocks
  pub blocks_grouped : (g : G) (n : ℕ) → blocks (λ x. blocks block step x k) (iterate step k) g n ≡ blocks block step g (n * k)
  blocks_grouped g zero = rw zero-mul refl
  blocks_grouped g (suc n) =
      ap (λ rest. blocks block step g k ++ rest) (blocks_grouped (iterate step k g) n)
      ∙ sym (blocks_add block step g k (n * k)) ∙ ap (blocks block step g) (one_more n k)

  module _ (output : ℕ) (positive : 0 < output) (size : (g : G) → length (block g) ≡ output) where
    -- a request for the bytes of m blocks takes these blocks
    pub taken_whole : (g : G) (m : ℕ) → taken block step g (m * output) ≡ blocks block step g m
    unfolding taken
    taken_whole g m =
        let more : m ≤ m * output = le-mul_self m output positive in
        let split : m * output ≡ m + (m * output - m) = omega (arith, more) in
        ap (λ (j : ℕ). take (m * output) (blocks block step g j)) split
        ∙ ap (take (m * output)) (blocks_add block step g m (m * output - m))
        ∙ take_at _ _ (m * output) (length-blocks block step output positive size g m)

    -- a request takes the same bytes from the groups as from the blocks
    pub taken_grouped : 0 < k → (g : G) (n : ℕ) → taken (λ x. blocks block step x k) (iterate step k) g n ≡ taken block step g n
    unfolding taken
    taken_grouped some g n =
        ap (take n) (blocks_grouped g n) ∙ take_blocks block step output positive size g n (n * k) (le-mul_self n k some)

pub length-chacha_group : (R : ℕ) (x : List ℕ) → length (chacha_group R x) ≡ 512
unfolding chacha_group
length-chacha_group R x = length-blocks (chacha_block R) next_state 64 (omega arith) (length-chacha_block R) x 8

-- a request to ChaCha for 512 bytes takes the next group
pub taken_chacha_group : (R : ℕ) (x : List ℕ) → taken (chacha_block R) next_state x 512 ≡ chacha_group R x
unfolding chacha_group
taken_chacha_group R x = taken_whole (chacha_block R) next_state 8 64 (omega arith) (length-chacha_block R) x 8

-- and it leaves the state after that group
pub after_chacha_group : (x : List ℕ) → plain_after next_state 64 x 512 ≡ next_group x
unfolding next_group
after_chacha_group x = refl

-- a request takes the same bytes from groups of ChaCha blocks as from the blocks
pub taken_chacha_groups : (R : ℕ) (x : List ℕ) (n : ℕ) → taken (chacha_group R) next_group x n ≡ taken (chacha_block R) next_state x n
unfolding chacha_group next_group
taken_chacha_groups R x n = taken_grouped (chacha_block R) next_state 8 64 (omega arith) (length-chacha_block R) (omega arith) x n

-- n groups are 8 * n blocks
pub steps_of_groups : (n : ℕ) (x : List ℕ) → iterate next_group n x ≡ iterate next_state (n * 8) x
unfolding next_group
steps_of_groups n x = steps_grouped next_state 8 x n

-- The stream of a key and a nonce, which has groups and a buffer: two requests are the same as one
-- of their total size,
pub stream_states_join : (R : ℕ) (b : Buffered (List ℕ)) (m n : ℕ)
    → (stream_requests R).after ((stream_requests R).after b m) n ≡ (stream_requests R).after b (m + n)
stream_states_join R = after_add (chacha_group R) next_group 512 (omega arith) (length-chacha_group R)

pub stream_bytes_join : (R : ℕ) (b : Buffered (List ℕ)) (m n : ℕ)
    → (stream_requests R).bytes b m ++ (stream_requests R).bytes ((stream_requests R).after b m) n
    ≡ (stream_requests R).bytes b (m + n)
stream_bytes_join R b m n = sym (taken_add (chacha_group R) next_group 512 (omega arith) (length-chacha_group R) b m n)

-- no request leaves the stream,
pub stream_stays : (R : ℕ) (b : Buffered (List ℕ)) (n : ℕ) → stream_start ((stream_requests R).after b n) ≡ stream_start b
unfolding buffered_after
stream_stays R b n =
    let q : ℕ = blocks_needed (chacha_group R) next_group 512 b n in
    ap (λ (x : List ℕ). buffer_of [] (with_counter x 0)) (steps_of_groups q b.inner ∙ chacha_steps (q * 8) b.inner)
    ∙ ap (buffer_of []) (with_counter-after (q * 8) 0 b.inner)

-- returning to byte 0 twice is the same as returning once,
pub stream_restarts : (b : Buffered (List ℕ)) → stream_start (stream_start b) ≡ stream_start b
stream_restarts b = ap (buffer_of []) (with_counter-twice b.inner 0 0)

-- and from every block, returning to byte 0 leads to the same state
pub stream_starts : (key nonce : List ℕ) (index : ℕ) → stream_start (buffer_of [] (state_at key nonce index)) ≡ buffer_of [] (state_at key nonce 0)
unfolding state_at
stream_starts key nonce index = ap (buffer_of []) (with_counter-twice (initial_state key nonce) index 0)
