-- Streams of ChaCha: where a seek leads, and when two streams deliver the same bytes.
use Rattle.std.proofs.Common.{◌≡◌, ℕ, ◌+◌, ◌-◌, ◌*◌, ◌/◌, ◌%◌, ◌^◌, ◌<◌, List, [], ◌++◌, length, length-append, drop, sum, sym, ap, ap₂, ◌∙◌, arith}
use Rattle.std.proofs.lemmas.Grind.{div_ceil_times}
use Rattle.std.proofs.lemmas.List.{drop_at}
use Rattle.std.specs.Fn.{iterate}
use Rattle.std.specs.Int.{div_ceil}
use Rattle.nanorand_core.specs.generators.Blocks.{Requests, blocks, plain_after, taken}
use Rattle.nanorand_core.specs.support.BlockLemmas.{length-blocks}
use Rattle.std.proofs.lemmas.List.{length-drop}
use Rattle.nanorand_replay.specs.generators.Buffered.{Buffered, blocks_needed, buffer_of, buffered_after, buffered_taken}
use Rattle.nanorand_replay.specs.support.BufferedLemmas.{after_add, after_fresh, length-buffered_taken, taken_add, taken_fresh}
use Rattle.nanorand_replay.specs.replay.Unbroken.{IsUnbroken, taken_all}
use Rattle.nanorand.specs.generators.ChaCha.{chacha_after, chacha_block, counter, key_of, next_state, nonce_of, with_counter}
use Rattle.nanorand.specs.generators.Parts.{NothingTwice}
use Rattle.nanorand.specs.generators.ChaChaRounds.{IsMatrix}
use Rattle.nanorand.specs.generators.ChaChaGroups.{chacha_group, next_group, stream_position, DeliverAlike}
use Rattle.nanorand.specs.support.ChaChaDrawLemmas.{counter-with_counter, chacha_closed, chacha_counts, chacha_key, chacha_nonce, chacha_steps, length-chacha_block}
use Rattle.nanorand.specs.support.ChaChaGroupLemmas.{length-chacha_group, steps_of_groups, taken_chacha_groups}

module _ (x : List ℕ) (matrix : IsMatrix x) where
  -- q groups later
  groups_after : (q : ℕ) → plain_after next_group 512 x (q * 512) ≡ with_counter x ((counter x + q % 2 ^ 61 * 8) % 2 ^ 64)
  groups_after q =
      let whole : div_ceil (q * 512) 512 ≡ q = omega (arith, div_ceil_times (q * 512) 512 (omega arith)) in
      let wraps : (counter x + q * 8) % 2 ^ 64 ≡ (counter x + q % 2 ^ 61 * 8) % 2 ^ 64 = omega arith in
      ap (λ (m : ℕ). iterate next_group m x) whole ∙ steps_of_groups q x ∙ chacha_steps (q * 8) x
      ∙ chacha_closed (q * 8) x matrix ∙ ap (with_counter x) wraps

  -- n bytes later: the group of that byte, and the bytes before it in the group
  pub bytes_after : (R n : ℕ)
      → buffered_after (chacha_group R) next_group 512 (buffer_of [] (with_counter x ((counter x + n / 512 % 2 ^ 61 * 8) % 2 ^ 64))) (n % 512)
      ≡ buffered_after (chacha_group R) next_group 512 (buffer_of [] x) n
  bytes_after R n =
      let q = n / 512 in
      let positive : 0 < 512 = omega arith in
      let size = length-chacha_group R in
      let start = buffer_of [] x in
      let even : q * 512 % 512 ≡ 0 = omega arith in
      let split : q * 512 + n % 512 ≡ n = omega arith in
      let group : buffered_after (chacha_group R) next_group 512 start (q * 512) ≡ buffer_of [] (with_counter x ((counter x + q % 2 ^ 61 * 8) % 2 ^ 64)) =
      after_fresh (chacha_group R) next_group 512 positive size x (q * 512) even ∙ ap (buffer_of []) (groups_after q) in
      ap (λ b. buffered_after (chacha_group R) next_group 512 b (n % 512)) (sym group)
      ∙ after_add (chacha_group R) next_group 512 positive size start (q * 512) (n % 512)
      ∙ ap (buffered_after (chacha_group R) next_group 512 start) split

  -- n bytes later and m bytes later are the same position if m and n agree modulo 2^70
  pub bytes_agree : (R m n : ℕ) → m % 2 ^ 70 ≡ n % 2 ^ 70
      → buffered_after (chacha_group R) next_group 512 (buffer_of [] x) m ≡ buffered_after (chacha_group R) next_group 512 (buffer_of [] x) n
  bytes_agree R m n agree =
      let group : m / 512 % 2 ^ 61 ≡ n / 512 % 2 ^ 61 = omega (arith, agree) in
      let left : m % 512 ≡ n % 512 = omega (arith, agree) in
      sym (bytes_after R m)
      ∙ ap₂ (λ (q k : ℕ). buffered_after (chacha_group R) next_group 512 (buffer_of [] (with_counter x ((counter x + q * 8) % 2 ^ 64))) k) group left
      ∙ bytes_after R n

-- With an empty buffer, a request after one of m bytes takes what the generator has after m bytes.
bytes_later : {G : Type 0} (block : G → List ℕ) (step : G → G) (output : ℕ) → 0 < output → ((g : G) → length (block g) ≡ output)
    → (g : G) (m n : ℕ)
    → buffered_taken block step output (buffered_after block step output (buffer_of [] g) m) n ≡ drop m (taken block step g (m + n))
bytes_later block step output positive size g m n =
    let b = buffer_of [] g in
    sym (drop_at (buffered_taken block step output b m) (buffered_taken block step output (buffered_after block step output b m) n)
    m (length-buffered_taken block step output positive size b m))
    ∙ ap (drop m) (sym (taken_add block step output positive size b m n) ∙ taken_fresh block step output positive size g (m + n))

-- from byte 64 * index on, a stream takes the same bytes as a stream that begins at this block
pub bytes_of_block : (R : ℕ) (x : List ℕ) (index n : ℕ)
    → buffered_taken (chacha_group R) next_group 512 (buffer_of [] (iterate next_state index x)) n
    ≡ buffered_taken (chacha_group R) next_group 512 (buffered_after (chacha_group R) next_group 512 (buffer_of [] x) (index * 64)) n
bytes_of_block R x index n =
    let some : 0 < 512 = omega arith in
    let also : 0 < 64 = omega arith in
    let even : index * 64 % 64 ≡ 0 = omega arith in
    let whole : div_ceil (index * 64) 64 ≡ index = omega (arith, div_ceil_times (index * 64) 64 also) in
    let y = iterate next_state index x in
    let left : buffered_after (chacha_block R) next_state 64 (buffer_of [] x) (index * 64) ≡ buffer_of [] y =
    after_fresh (chacha_block R) next_state 64 also (length-chacha_block R) x (index * 64) even
    ∙ ap (λ (m : ℕ). buffer_of [] (iterate next_state m x)) whole in
    taken_fresh (chacha_group R) next_group 512 some (length-chacha_group R) y n
    ∙ taken_chacha_groups R y n
    ∙ sym (taken_fresh (chacha_block R) next_state 64 also (length-chacha_block R) y n)
    ∙ ap (λ b. buffered_taken (chacha_block R) next_state 64 b n) (sym left)
    ∙ bytes_later (chacha_block R) next_state 64 also (length-chacha_block R) x (index * 64) n
    ∙ ap (drop (index * 64)) (sym (taken_chacha_groups R x (index * 64 + n)))
    ∙ sym (bytes_later (chacha_group R) next_group 512 some (length-chacha_group R) x (index * 64) n)

-- a request of n bytes adds n to the number of the next byte
pub position_moves : (R : ℕ) (b : Buffered (List ℕ)) (n : ℕ) → IsMatrix b.inner → length b.rest < 512
    → stream_position (buffered_after (chacha_group R) next_group 512 b n) ≡ (stream_position b + n) % 2 ^ 70
unfolding buffered_after
position_moves R b n matrix below =
    let q : ℕ = div_ceil (n - length b.rest) 512 in
    let positive : 0 < 512 = omega arith in
    let counts : counter (iterate next_group q b.inner) ≡ (counter b.inner + q * 8) % 2 ^ 64 =
    ap counter (steps_of_groups q b.inner ∙ chacha_steps (q * 8) b.inner) ∙ chacha_counts (q * 8) b.inner matrix in
    let left : length (drop n (b.rest ++ blocks (chacha_group R) next_group b.inner q)) ≡ length b.rest + q * 512 - n =
    length-drop n (b.rest ++ blocks (chacha_group R) next_group b.inner q)
    ∙ ap (λ (m : ℕ). m - n) (length-append b.rest (blocks (chacha_group R) next_group b.inner q)
    ∙ ap (λ (m : ℕ). length b.rest + m) (length-blocks (chacha_group R) next_group 512 positive (length-chacha_group R) b.inner q)) in
    rw (counts, left) (omega (arith, div_ceil_times (n - length b.rest) 512 positive, below))

-- a stream keeps its key and its nonce
module _ (R : ℕ) (b : Buffered (List ℕ)) (n : ℕ) where
  inner_moves : (buffered_after (chacha_group R) next_group 512 b n).inner ≡ chacha_after (blocks_needed (chacha_group R) next_group 512 b n * 8) b.inner
  unfolding buffered_after
  inner_moves =
      let q : ℕ = blocks_needed (chacha_group R) next_group 512 b n in
      steps_of_groups q b.inner ∙ chacha_steps (q * 8) b.inner

  pub key-kept : key_of (buffered_after (chacha_group R) next_group 512 b n).inner ≡ key_of b.inner
  key-kept = ap key_of inner_moves ∙ chacha_key (blocks_needed (chacha_group R) next_group 512 b n * 8) b.inner

  pub nonce-kept : nonce_of (buffered_after (chacha_group R) next_group 512 b n).inner ≡ nonce_of b.inner
  nonce-kept = ap nonce_of inner_moves ∙ chacha_nonce (blocks_needed (chacha_group R) next_group 512 b n * 8) b.inner

-- within 2^70 bytes no state occurs twice
pub bytes-once : (R : ℕ) (b : Buffered (List ℕ)) → IsMatrix b.inner → length b.rest < 512
    → NothingTwice (2 ^ 70) (λ n. buffered_after (chacha_group R) next_group 512 b n)
bytes-once R b matrix below m n low high same =
    omega (arith, low, high, sym (position_moves R b m matrix below) ∙ ap stream_position same ∙ position_moves R b n matrix below)

-- the byte after a request of n bytes from byte 0 on is byte n
pub position_after : (R : ℕ) (x : List ℕ) (n : ℕ) → 13 < length x → IsMatrix (with_counter x 0)
    → stream_position (buffered_after (chacha_group R) next_group 512 (buffer_of [] (with_counter x 0)) n) ≡ n % 2 ^ 70
position_after R x n long matrix =
    let zero_there = counter-with_counter x 0 long in
    position_moves R (buffer_of [] (with_counter x 0)) n matrix (omega arith)
    ∙ ap (λ (c : ℕ). ((c * 64 + 2 ^ 70 - 0) % 2 ^ 70 + n) % 2 ^ 70) zero_there ∙ omega arith

-- If single requests take the same bytes from two unbroken generators, the two deliver the same
-- bytes.
module _ {G H : Type 0} (requests : Requests G) (others : Requests H) (unbroken : IsUnbroken requests) (also : IsUnbroken others)
    (g : G) (h : H) (long : (n : ℕ) → length (requests.bytes g n) ≡ n) (same : (n : ℕ) → requests.bytes g n ≡ others.bytes h n) where
  same_later : (m n : ℕ) → requests.bytes (requests.after g m) n ≡ others.bytes (others.after h m) n
  same_later m n =
      sym (drop_at (requests.bytes g m) (requests.bytes (requests.after g m) n) m (long m))
      ∙ ap (drop m) (unbroken.two_takes g m n ∙ same (m + n) ∙ sym (also.two_takes h m n))
      ∙ drop_at (others.bytes h m) (others.bytes (others.after h m) n) m (ap length (sym (same m)) ∙ long m)

  pub deliver_alike : DeliverAlike requests g others h
  deliver_alike sizes n =
      ap (λ state. requests.bytes state n) (unbroken.all_states g sizes) ∙ same_later (sum sizes) n
      ∙ ap (λ state. others.bytes state n) (sym (also.all_states h sizes))

  pub all_alike : (sizes : List ℕ) → taken_all requests g sizes ≡ taken_all others h sizes
  all_alike sizes = unbroken.all_takes g sizes ∙ same (sum sizes) ∙ sym (also.all_takes h sizes)
