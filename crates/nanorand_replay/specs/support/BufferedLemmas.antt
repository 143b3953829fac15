-- A buffered generator delivers one unbroken stream of bytes. Not needed to understand the
-- contracts: this file is in specs/ only because laws of impls cite its lemmas.
use Rattle.std.proofs.Common.{◌≡◌, ℕ, zero, suc, ◌+◌, ◌-◌, ◌*◌, ◌/◌, ◌%◌, ◌<◌, ◌≤◌, List, [], ◌++◌, length, take, drop}
use Rattle.std.proofs.Common.{refl, sym, ◌∙◌, ap, arith, length-append, length-drop, append_assoc, add-zero, ⊎_elim}
use Rattle.std.specs.Fn.{iterate}
use Rattle.std.specs.Int.{div_ceil}
use Rattle.std.proofs.lemmas.Bool.{cases_lt}
use Rattle.std.proofs.Math.Seq.{take-add}
use Rattle.std.proofs.lemmas.Grind.{div_ceil_times}
use Rattle.std.proofs.lemmas.Nat.{div-add-mod', mod_below, mod-mul-add}
use Rattle.std.proofs.lemmas.List.{append-nil, take-append-le, drop-append-le, drop-drop, length-take-le, take_at, take_all, drop_all, nil_from_length}
use Rattle.std.proofs.Math.Nat.{zero-div, zero-mod, add-mul, suc-mul, zero-mul, sub-zero, add_comm, mul-le-mul_right}
use Rattle.nanorand_core.specs.generators.Blocks.{blocks, taken, plain_after}
use Rattle.nanorand_replay.specs.generators.Buffered.{Buffered, buffer_of, stream, blocks_needed, buffered_taken, buffered_after, buffered_block, buffered_step}
use Rattle.nanorand_core.specs.support.IterateLemmas.{iterate-add}
use Rattle.nanorand_core.specs.support.BlockLemmas.{blocks_add, length-blocks, div_ceil_more, le-mul_self, taken_front}

-- the least q with x ≤ q * k is the quotient rounded up
div_ceil_unique : (x k q : ℕ) → 0 < k → x ≤ q * k → q * k < x + k → div_ceil x k ≡ q
div_ceil_unique x k q positive covers least =
    let p : ℕ = div_ceil x k in
    let bounds = div_ceil_times x k positive in
    ⊎_elim (λ less. absurd (omega (arith, suc-mul p k, mul-le-mul_right k less, bounds)))
    (λ more. ⊎_elim (λ less. absurd (omega (arith, suc-mul q k, mul-le-mul_right k less, bounds))) (λ same. omega arith) (cases_lt q p))
    (cases_lt p q)

div_ceil_zero : (k : ℕ) → div_ceil 0 k ≡ 0
div_ceil_zero k = rw (zero-div, zero-mod) refl

-- no bytes need no block
ceil_none : (x k : ℕ) → x ≡ 0 → div_ceil x k * k ≡ 0
ceil_none x k none = rw (none, div_ceil_zero, zero-mul) refl

-- With r bytes buffered, one request of m + n bytes takes as many blocks as a request of m bytes
-- and one of n bytes.
ceil_add : (r m n k : ℕ) → 0 < k → div_ceil (m + n - r) k ≡ div_ceil (m - r) k + div_ceil (n - (r + div_ceil (m - r) k * k - m)) k
ceil_add r m n k positive =
    let first : ℕ = div_ceil (m - r) k in
    let left : ℕ = r + first * k - m in
    let one = div_ceil_times (m - r) k positive in
    let start = ceil_none (m - r) k in
    ⊎_elim (λ (more : left < n).
    let two = div_ceil_times (n - left) k positive in
    div_ceil_unique (m + n - r) k (first + div_ceil (n - left) k) positive
    (rw (add-mul first (div_ceil (n - left) k) k) (omega (arith, one, two, start)))
    (rw (add-mul first (div_ceil (n - left) k) k) (omega (arith, one, two, start))))
    (λ (enough : n ≤ left).
    let none : n - left ≡ 0 = omega arith in
    rw (none, div_ceil_zero, add-zero) (div_ceil_unique (m + n - r) k first positive (omega (arith, one, start)) (omega (arith, one, start))))
    (cases_lt left n)

-- with r bytes buffered, a request of n bytes leaves less than a block of these and of the blocks
-- drawn
left_below : (r n k : ℕ) → 0 < k → r < k → r + div_ceil (n - r) k * k - n < k
left_below r n k positive below =
    let bounds = div_ceil_times (n - r) k positive in
    ⊎_elim (λ (more : r < n). omega (arith, bounds))
    (λ (enough : n ≤ r). let start = ceil_none (n - r) k (omega arith) in omega (arith, start))
    (cases_lt r n)

pub same_buffer : {G : Type 0} {rest other : List ℕ} {inner another : G} → rest ≡ other → inner ≡ another → buffer_of rest inner ≡ buffer_of other another
same_buffer e f = cc

module _ {G : Type 0} (block : G → List ℕ) (step : G → G) (output : ℕ) (positive : 0 < output) (size : (g : G) → length (block g) ≡ output) where
  length-stream : (b : Buffered G) (m : ℕ) → length (stream block step output b m) ≡ length b.rest + m * output
  length-stream b m = rw length-append (ap (λ n. length b.rest + n) (length-blocks block step output positive size b.inner m))

  -- the blocks drawn cover the request
  covered : (b : Buffered G) (n : ℕ) → n ≤ length b.rest + blocks_needed block step output b n * output
  covered b n = omega (arith, div_ceil_times (n - length b.rest) output positive)

  stream_covers : (b : Buffered G) (n : ℕ) → n ≤ length (stream block step output b (blocks_needed block step output b n))
  stream_covers b n = rw (length-stream b (blocks_needed block step output b n)) (covered b n)

  pub length-buffered_taken : (b : Buffered G) (n : ℕ) → length (buffered_taken block step output b n) ≡ n
  unfolding buffered_taken
  length-buffered_taken b n = length-take-le n _ (stream_covers b n)

  -- what a request leaves is shorter than a block
  pub rest_below : (b : Buffered G) (n : ℕ) → length b.rest < output → length (buffered_after block step output b n).rest < output
  unfolding buffered_after
  rest_below b n below =
      rw (
        length-drop n (stream block step output b (blocks_needed block step output b n)),
        length-stream b (blocks_needed block step output b n),
      ) (left_below (length b.rest) n output positive below)

  -- further blocks extend the stream at its end
  stream_add : (b : Buffered G) (m k : ℕ) → stream block step output b (m + k) ≡ stream block step output b m ++ blocks block step (iterate step m b.inner) k
  stream_add b m k = ap (λ bytes. b.rest ++ bytes) (blocks_add block step b.inner m k) ∙ sym (append_assoc b.rest _ _)

  -- the stream after a request is the rest of the stream
  stream_after : (b : Buffered G) (n m : ℕ) → stream block step output (buffered_after block step output b n) m
      ≡ drop n (stream block step output b (blocks_needed block step output b n + m))
  unfolding buffered_after
  stream_after b n m = rw (stream_add b (blocks_needed block step output b n) m) (sym (drop-append-le n _ _ (stream_covers b n)))

  needed_add : (b : Buffered G) (m n : ℕ) → blocks_needed block step output b (m + n)
      ≡ blocks_needed block step output b m + blocks_needed block step output (buffered_after block step output b m) n
  unfolding buffered_after
  needed_add b m n =
      let needed : ℕ = blocks_needed block step output b m in
      rw (length-drop m (stream block step output b needed), length-stream b needed) (ceil_add (length b.rest) m n output positive)

  -- Two requests take the bytes that one of their total size takes,
  pub taken_add : (b : Buffered G) (m n : ℕ) → buffered_taken block step output b (m + n)
      ≡ buffered_taken block step output b m
      ++ buffered_taken block step output (buffered_after block step output b m) n
  unfolding buffered_taken
  taken_add b m n =
      let first : ℕ = blocks_needed block step output b m in
      let second : ℕ = blocks_needed block step output (buffered_after block step output b m) n in
      let front : take m (stream block step output b (first + second))
      ≡ take m (stream block step output b first) = ap (λ bytes. take m bytes) (stream_add b first second)
      ∙ take-append-le m _ _ (stream_covers b m) in
      ap (λ k. take (m + n) (stream block step output b k)) (needed_add b m n)
      ∙ take-add m n (stream block step output b (first + second))
      ∙ ap (λ bytes. bytes ++ take n (drop m (stream block step output b (first + second)))) front
      ∙ ap (λ bytes. take m (stream block step output b first) ++ take n bytes) (sym (stream_after b m second))

  -- and leave the same state.
  pub after_add : (b : Buffered G) (m n : ℕ)
      → buffered_after block step output (buffered_after block step output b m) n
      ≡ buffered_after block step output b (m + n)
  unfolding buffered_after
  after_add b m n =
      let first : ℕ = blocks_needed block step output b m in
      let second : ℕ = blocks_needed block step output (buffered_after block step output b m) n in
      let rest : drop n (stream block step output (buffered_after block step output b m) second)
      ≡ drop (m + n) (stream block step output b (first + second)) = ap (λ bytes. drop n bytes)
      (stream_after b m second) ∙ drop-drop n m _ in
      same_buffer rest (sym (iterate-add step first second b.inner))
      ∙ ap (λ k. record { rest = drop (m + n) (stream block step output b k); inner = iterate step k b.inner })
      (sym (needed_add b m n))

  taken_within : (b : Buffered G) (n m : ℕ) → n ≤ m → take n (buffered_taken block step output b m) ≡ buffered_taken block step output b n
  taken_within b n m within =
      let split : m ≡ n + (m - n) = omega arith in
      let long : length (buffered_taken block step output b n) ≡ n = length-buffered_taken b n in
      ap (λ k. take n (buffered_taken block step output b k)) split ∙ ap (λ bytes. take n bytes) (taken_add b n (m - n)) ∙ take_at _ _ n long

  -- n blocks of a buffer are one request of their length
  blocks_of : (b : Buffered G) (n : ℕ) → blocks (buffered_block block step output) (buffered_step block step output) b
      n ≡ buffered_taken block step output b (n * output)
  blocks_of b zero = rw zero-mul (sym (nil_from_length _ (length-buffered_taken b 0)))
  blocks_of b (suc n) =
      ap (λ bytes. buffered_block block step output b ++ bytes) (blocks_of (buffered_step block step output b) n)
      ∙ sym (taken_add b output (n * output)) ∙ ap (λ k. buffered_taken block step output b k) (sym (suc-mul n output ∙ add_comm (n * output) output))

  -- The bytes of the buffer's blocks are those of the unbroken stream.
  pub taken_unbroken : (b : Buffered G) (n : ℕ)
      → taken (buffered_block block step output) (buffered_step block step output) b n
      ≡ buffered_taken block step output b n
  unfolding taken
  taken_unbroken b n = ap (λ bytes. take n bytes) (blocks_of b n) ∙ taken_within b n (n * output) (le-mul_self n output positive)

  pub delivers : (b : Buffered G) (n : ℕ) → buffered_taken block step output b n
      ≡ taken (buffered_block block step output) (buffered_step block step output) b n
  delivers b n = sym (taken_unbroken b n)

  pub after_refilled : (g : G) (n : ℕ) → 0 < n → buffered_after block step output (buffer_of [] g) n
      ≡ buffered_after block step output (buffer_of (block g) (step g)) n
  unfolding buffered_after
  after_refilled g n some = rw (sub-zero, div_ceil_more n output some positive, size g) refl

  -- a request within the buffered bytes
  needs_none : (b : Buffered G) (n : ℕ) → n ≤ length b.rest → blocks_needed block step output b n ≡ 0
  needs_none b n within = let none : n - length b.rest ≡ 0 = omega arith in rw (none, div_ceil_zero) refl

  pub taken_kept : (b : Buffered G) (n : ℕ) → n ≤ length b.rest → buffered_taken block step output b n ≡ take n b.rest
  unfolding buffered_taken
  taken_kept b n within = ap (λ k. take n (stream block step output b k)) (needs_none b n within) ∙ ap (λ bytes. take n bytes) (append-nil b.rest)

  pub after_kept : (b : Buffered G) (n : ℕ) → n ≤ length b.rest → buffered_after block step output b n ≡ buffer_of (drop n b.rest) b.inner
  unfolding buffered_after
  after_kept b n within =
      ap (λ k. record { rest = drop n (stream block step output b k); inner = iterate step k b.inner }) (needs_none b n within)
      ∙ ap (λ bytes. record { rest = drop n bytes; inner = b.inner }) (append-nil b.rest)

  pub after_nothing : (b : Buffered G) → buffered_after block step output b 0 ≡ b
  after_nothing b = after_kept b 0 (omega arith)

  -- a larger request: all buffered bytes, and a request to the empty buffer for the rest
  module _ (b : Buffered G) (n : ℕ) (past : length b.rest ≤ n) where
    past_split : n ≡ length b.rest + (n - length b.rest)
    past_split = omega arith

    past_kept : buffered_after block step output b (length b.rest) ≡ buffer_of [] b.inner
    past_kept = after_kept b (length b.rest) (omega arith) ∙ same_buffer (drop_all (length b.rest) b.rest (omega arith)) refl

    pub taken_past : buffered_taken block step output b n ≡ b.rest ++ buffered_taken block step output (buffer_of [] b.inner) (n - length b.rest)
    taken_past =
        ap (λ k. buffered_taken block step output b k) past_split ∙ taken_add b (length b.rest) (n - length b.rest)
        ∙ ap (λ bytes. bytes ++ buffered_taken block step output (buffered_after block step output b (length b.rest)) (n - length b.rest))
        (taken_kept b (length b.rest) (omega arith) ∙ take_all (length b.rest) b.rest (omega arith))
        ∙ ap (λ c. b.rest ++ buffered_taken block step output c (n - length b.rest)) past_kept

    pub after_past : buffered_after block step output b n ≡ buffered_after block step output (buffer_of [] b.inner) (n - length b.rest)
    after_past =
        ap (λ k. buffered_after block step output b k) past_split ∙ sym (after_add b (length b.rest) (n - length b.rest))
        ∙ ap (λ c. buffered_after block step output c (n - length b.rest)) past_kept

  -- With an empty buffer, a request takes the bytes that it takes from the generator.
  ceil_fewer : (n : ℕ) → div_ceil n output ≤ n
  ceil_fewer n =
      ⊎_elim (λ (more : n < div_ceil n output).
      absurd (omega (arith, suc-mul n output, mul-le-mul_right output more, le-mul_self n output positive, div_ceil_times n output positive)))
      (λ fewer. fewer) (cases_lt n (div_ceil n output))

  take_enough : (g : G) (n q : ℕ) → n ≤ q * output → q ≤ n → take n (blocks block step g q) ≡ take n (blocks block step g n)
  take_enough g n q enough fewer =
      let split : n ≡ q + (n - q) = omega arith in
      let long : n ≤ length (blocks block step g q) = rw (length-blocks block step output positive size g q) enough in
      sym (ap (λ k. take n (blocks block step g k)) split ∙ ap (λ bytes. take n bytes) (blocks_add block step g q (n - q)) ∙ take-append-le n _ _ long)

  pub taken_fresh : (g : G) (n : ℕ) → buffered_taken block step output (buffer_of [] g) n ≡ taken block step g n
  unfolding buffered_taken taken
  taken_fresh g n = rw sub-zero (take_enough g n (div_ceil n output) (div_ceil_times n output positive).0 (ceil_fewer n))

  -- whole blocks leave an empty buffer
  ceil_even : (n : ℕ) → n % output ≡ 0 → div_ceil n output * output ≡ n
  ceil_even n even =
      let split = div-add-mod' n output in
      ap (λ q. q * output) (div_ceil_unique n output (n / output) positive (omega (arith, split, even)) (omega (arith, split, even)))
      ∙ omega (arith, split, even)

  pub after_fresh : (g : G) (n : ℕ) → n % output ≡ 0 → buffered_after block step output (buffer_of [] g) n ≡ buffer_of [] (plain_after step output g n)
  unfolding buffered_after
  after_fresh g n even =
      let long : length (blocks block step g (div_ceil n output)) ≤ n = rw (length-blocks block step output positive
      size g (div_ceil n output)) (omega (arith, ceil_even n even)) in
      rw sub-zero (same_buffer (drop_all n (blocks block step g (div_ceil n output)) long) refl)

  -- whole blocks, and the front of one more
  module _ (g : G) (n : ℕ) where
    whole_even : (n - n % output) % output ≡ 0
    whole_even =
        let split = div-add-mod' n output in
        let product : n - n % output ≡ n / output * output + 0 = omega (arith, split) in
        ap (λ k. k % output) product ∙ mod-mul-add (n / output) output 0 positive

    whole_split : n ≡ n - n % output + n % output
    whole_split = omega (arith, div-add-mod' n output)

    last_few : n % output < output
    last_few = mod_below n output positive

    pub taken_parts : buffered_taken block step output (buffer_of [] g) n ≡ taken block step g (n - n % output)
        ++ take (n % output) (block (plain_after step output g (n - n % output)))
    taken_parts =
        let behind = plain_after step output g (n - n % output) in
        ap (λ k. buffered_taken block step output (buffer_of [] g) k) whole_split
        ∙ taken_add (buffer_of [] g) (n - n % output) (n % output)
        ∙ ap (λ bytes. bytes ++ buffered_taken block step output
        (buffered_after block step output (buffer_of [] g) (n - n % output)) (n % output))
        (taken_fresh g (n - n % output))
        ∙ ap (λ c. taken block step g (n - n % output) ++ buffered_taken block step output c (n % output)) (after_fresh g (n - n % output) whole_even)
        ∙ ap (λ bytes. taken block step g (n - n % output) ++ bytes)
        (taken_fresh behind (n % output) ∙ taken_front block step output positive size behind (n % output) (omega (arith, last_few)))

    pub after_parts : 0 < n % output → buffered_after block step output (buffer_of [] g) n
        ≡ buffer_of (drop (n % output) (block (plain_after step output g (n - n % output))))
        (step (plain_after step output g (n - n % output)))
    after_parts some =
        let behind = plain_after step output g (n - n % output) in
        ap (λ k. buffered_after block step output (buffer_of [] g) k) whole_split
        ∙ sym (after_add (buffer_of [] g) (n - n % output) (n % output))
        ∙ ap (λ c. buffered_after block step output c (n % output)) (after_fresh g (n - n % output) whole_even)
        ∙ after_refilled behind (n % output) some
        ∙ after_kept (buffer_of (block behind) (step behind)) (n % output) (omega (arith, size behind, last_few))
