-- The requests of a word generator satisfy the laws of `Rng`.
use Rattle.std.specs.Prelude.{◌≡◌, ℕ, zero, suc, ◌+◌, ◌-◌, ◌*◌, ◌/◌, ◌≤◌, List, ◌++◌, length, take}
use Rattle.std.proofs.Common.{refl, sym, ap, ◌∙◌, arith, append_assoc, append-nil, length-append, add-zero, add-suc, mul-zero, mul-suc, add-sub_of_le}
use Rattle.std.proofs.lemmas.List.{take-append-le}
use Rattle.std.specs.Int.{w32, w64, to_le_bytes}
use Rattle.rand_core.specs.Steps.{word_bytes}
use Rattle.nanorand_core.specs.generators.Blocks.{blocks, taken}
use Rattle.nanorand_rand.specs.Words.{words32, words64}

module _ {R : Type 0} (bytes : ℕ → List ℕ) (step : R → ℕ × R) where
  -- Words that are drawn in two parts.
  pub word_bytes-add : (j k : ℕ) (r : R) → word_bytes bytes step (j + k) r
      ≡ (
        (word_bytes bytes step j r).0 ++ (word_bytes bytes step k (word_bytes bytes step j r).1).0,
        (word_bytes bytes step k (word_bytes bytes step j r).1).1,
      )
  unfolding word_bytes
  word_bytes-add j zero r = rw add-zero (ap (λ (xs : List ℕ). (xs, (word_bytes bytes step j r).1)) (sym (append-nil _)))
  word_bytes-add j (suc k) r =
      let middle = (word_bytes bytes step j r).1 in
      rw add-suc (ap (λ (p : List ℕ × R). (p.0 ++ bytes (step p.1).0, (step p.1).1)) (word_bytes-add j k r)
      ∙ ap (λ (xs : List ℕ). (xs, (step (word_bytes bytes step k middle).1).1)) (append_assoc (word_bytes bytes step j r).0 _ _))

  -- k words have k times as many bytes as one.
  pub length-word_bytes : (size : ℕ) → ((w : ℕ) → length (bytes w) ≡ size) → (k : ℕ) (r : R)
      → length (word_bytes bytes step k r).0 ≡ k * size
  unfolding word_bytes
  length-word_bytes size each zero r = omega arith
  length-word_bytes size each (suc k) r =
      let before = word_bytes bytes step k r in
      length-append before.0 (bytes (step before.1).0)
      ∙ (omega (arith, length-word_bytes size each k r, each (step before.1).0))

  -- Further words do not change the first bytes.
  pub front-more : (j k n : ℕ) (r : R) → n ≤ length (word_bytes bytes step j r).0
      → take n (word_bytes bytes step (j + k) r).0 ≡ take n (word_bytes bytes step j r).0
  front-more j k n r fits =
      ap (λ (p : List ℕ × R). take n p.0) (word_bytes-add j k r) ∙ take-append-le n (word_bytes bytes step j r).0 _ fits

  -- Blocks of c words each are consecutive words.
  pub blocks-of_words : (c m : ℕ) (r : R)
      → blocks (λ s. (word_bytes bytes step c s).0) (λ s. (word_bytes bytes step c s).1) r m
      ≡ (word_bytes bytes step (c * m) r).0
  unfolding word_bytes
  blocks-of_words c zero r = rw mul-zero refl
  blocks-of_words c (suc m) r =
      let first = word_bytes bytes step c r in
      let one_more : c + c * m ≡ c * suc m = omega (arith, mul-suc c m) in
      ap (λ (rest : List ℕ). first.0 ++ rest) (blocks-of_words c m first.1)
      ∙ sym (ap (λ (p : List ℕ × R). p.0) (word_bytes-add c (c * m) r))
      ∙ ap (λ (k : ℕ). (word_bytes bytes step k r).0) one_more

  -- So the first n bytes of these blocks are those of any k words that have at least n bytes.
  pub front-of_blocks : (c k n : ℕ) (r : R) → n ≤ length (word_bytes bytes step k r).0 → k ≤ c * n
      → take n (word_bytes bytes step k r).0
      ≡ take n (blocks (λ s. (word_bytes bytes step c s).0) (λ s. (word_bytes bytes step c s).1) r n)
  front-of_blocks c k n r fits few =
      sym (front-more k (c * n - k) n r fits)
      ∙ ap (λ (m : ℕ). take n (word_bytes bytes step m r).0) (add-sub_of_le few)
      ∙ sym (ap (take n) (blocks-of_words c n r))

module _ {R : Type 0} (step : R → ℕ × R) where
  pub length-block32 : (r : R) → length ((words32 step).bytes r 8) ≡ 8
  unfolding word_bytes
  length-block32 r = refl

  pub after_nothing32 : (r : R) → (words32 step).after r 0 ≡ r
  unfolding word_bytes
  after_nothing32 r = refl

  block32 : (r : R) (n : ℕ) → let words = word_bytes (to_le_bytes w32) step in
      take n (blocks (λ s. (words 2 s).0) (λ s. (words 2 s).1) r n)
      ≡ taken (λ s. (words32 step).bytes s 8) (λ s. (words32 step).after s 8) r n
  unfolding word_bytes taken
  block32 r n = refl

  pub delivers32 : (r : R) (n : ℕ) → (words32 step).bytes r n
      ≡ taken (λ s. (words32 step).bytes s 8) (λ s. (words32 step).after s 8) r n
  delivers32 r n =
      let size = length-word_bytes (to_le_bytes w32) step 4 (λ w. refl) ((n + 3) / 4) r in
      front-of_blocks (to_le_bytes w32) step 2 ((n + 3) / 4) n r (omega (arith, size)) (omega arith) ∙ block32 r n

  pub length-block64 : (r : R) → length ((words64 step).bytes r 8) ≡ 8
  unfolding word_bytes
  length-block64 r = refl

  pub after_nothing64 : (r : R) → (words64 step).after r 0 ≡ r
  unfolding word_bytes
  after_nothing64 r = refl

  block64 : (r : R) (n : ℕ) → let words = word_bytes (to_le_bytes w64) step in
      take n (blocks (λ s. (words 1 s).0) (λ s. (words 1 s).1) r n)
      ≡ taken (λ s. (words64 step).bytes s 8) (λ s. (words64 step).after s 8) r n
  unfolding word_bytes taken
  block64 r n = refl

  pub delivers64 : (r : R) (n : ℕ) → (words64 step).bytes r n
      ≡ taken (λ s. (words64 step).bytes s 8) (λ s. (words64 step).after s 8) r n
  delivers64 r n =
      let size = length-word_bytes (to_le_bytes w64) step 8 (λ w. refl) ((n + 7) / 8) r in
      front-of_blocks (to_le_bytes w64) step 1 ((n + 7) / 8) n r (omega (arith, size)) (omega arith) ∙ block64 r n
