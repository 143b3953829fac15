-- Lemmas about requests, block by block. Not needed to understand the contracts: this file is in
-- specs/ only because laws of impls cite its lemmas.
use Rattle.std.proofs.Common.{◌≡◌, ℕ, zero, suc, ◌+◌, ◌-◌, ◌*◌, min, ◌<◌, ◌≤◌, List, [], ◌∷◌, ◌++◌, length, take, drop}
use Rattle.std.proofs.Common.{refl, sym, ◌∙◌, ap, arith, length-append, append_assoc, ⊎_elim, zero-add}
use Rattle.std.proofs.lemmas.List.{length-take-le, take_min}
use Rattle.std.specs.Fn.{iterate}
use Rattle.std.specs.Int.{div_ceil}
use Rattle.std.proofs.lemmas.List.{take-append-le, append-nil, take_all, drop_all, length-drop}
use Rattle.std.proofs.lemmas.Bool.{cases_lt}
use Rattle.std.proofs.lemmas.Grind.{common_steps}
use Rattle.std.proofs.lemmas.Slice.{take-put_mid}
use borrow.Rule.Slice.PartMut.{put_mid, post_of}
use Rattle.std.proofs.Math.Nat.{suc-add, min_comm, suc-sub-suc, zero-sub, sub-zero, div-eq_of_lt, mod-eq_of_lt}
use Rattle.std.proofs.Math.Nat.{add-div_right, add-mod_right, zero-div, zero-mod, div_self, mod_self}
use Rattle.nanorand_core.specs.generators.Blocks.{blocks, taken, plain_after}

-- the first n elements of one list followed by another, for any n
pub take-append : (n : ℕ) (xs ys : List ℕ) → take n (xs ++ ys) ≡ take n xs ++ take (n - length xs) ys
take-append zero xs ys = rw zero-sub
take-append (suc n) [] ys = rw sub-zero
take-append (suc n) (x ∷ xs) ys = rw (suc-sub-suc n (length xs)) (ap (λ rest. x ∷ rest) (take-append n xs ys))

pub le-mul_self : (n k : ℕ) → 0 < k → n ≤ n * k
le-mul_self n k positive = grind arith

-- a request longer than a block takes one block, and then the blocks of the rest
div_ceil_past : (n k : ℕ) → 0 < k → div_ceil (n + k) k ≡ suc (div_ceil n k)
div_ceil_past n k positive = rw (add-div_right n positive, add-mod_right n k) (omega arith)

div_ceil_within : (n k : ℕ) → 0 < n → n ≤ k → div_ceil n k ≡ 1
div_ceil_within n k some within =
    ⊎_elim (λ below. rw (div-eq_of_lt {n = n} {m = k} below, mod-eq_of_lt {n = n} {m = k} below) (omega arith))
    (λ above. let same : n ≡ k = omega arith in let positive : 0 < k = omega arith in rw (same, div_self {n = k} positive, mod_self k) refl)
    (cases_lt n k)

pub div_ceil_more : (n k : ℕ) → 0 < n → 0 < k → div_ceil n k ≡ suc (div_ceil (n - k) k)
div_ceil_more n k some positive =
    ⊎_elim (λ past. let split : n ≡ (n - k) + k = omega arith in ap (λ m. div_ceil m k) split ∙ div_ceil_past (n - k) k positive)
    (λ within. let none : n - k ≡ 0 = omega arith in div_ceil_within n k some within ∙ rw (none, zero-div, zero-mod) refl)
    (cases_lt k n)

-- a write to the end of a list
pub put_end : (n k : ℕ) (xs ys : List ℕ) → length xs ≤ n + k → put_mid n k xs ys ≡ take n xs ++ ys
put_end n k xs ys end =
    let none : post_of n k xs ≡ [] = drop_all k (drop n xs) (rw (length-drop n xs) (omega arith)) in
    rw (none, append-nil) refl

module _ {G : Type 0} (block : G → List ℕ) (step : G → G) where
  pub taken_nothing : (g : G) → taken block step g 0 ≡ []
  unfolding taken
  taken_nothing g = refl

  pub blocks_add : (g : G) (m n : ℕ) → blocks block step g (m + n) ≡ blocks block step g m ++ blocks block step (iterate step m g) n
  blocks_add g zero n = rw zero-add
  blocks_add g (suc m) n = rw (suc-add, append_assoc) (ap (λ rest. block g ++ rest) (blocks_add (step g) m n))

module _ {G : Type 0} (block : G → List ℕ) (step : G → G) (output : ℕ) (positive : 0 < output) (size : (g : G) → length (block g) ≡ output) where
  pub length-blocks : (g : G) (n : ℕ) → length (blocks block step g n) ≡ n * output
  length-blocks g zero = omega arith
  length-blocks g (suc n) = rw (length-append, size g, length-blocks (step g) n) (omega arith)

  -- further blocks change nothing
  pub take_blocks : (g : G) (n m : ℕ) → n ≤ m → take n (blocks block step g m) ≡ take n (blocks block step g n)
  take_blocks g n m more =
      let split : m ≡ n + (m - n) = omega arith in
      let enough : n ≤ length (blocks block step g n) = rw (length-blocks g n) (le-mul_self n output positive) in
      ap (λ k. take n (blocks block step g k)) split ∙ rw (blocks_add block step g n (m - n)) (take-append-le n _ _ enough)

  -- a request takes the next block first
  pub taken_more : (g : G) (n : ℕ) → taken block step g n ≡ take n (block g) ++ taken block step (step g) (n - output)
  unfolding taken
  taken_more g zero = rw zero-sub refl
  taken_more g (suc n) =
      let less : suc n - output ≤ n = omega arith in
      take-append (suc n) (block g) (blocks block step (step g) n)
      ∙ rw (size g) (ap (λ rest. take (suc n) (block g) ++ rest) (take_blocks (step g) (suc n - output) n less))

  -- in a generator without a buffer, a request takes one block and then the rest
  pub plain_after_more : (g : G) (n : ℕ) → 0 < n → plain_after step output g n ≡ plain_after step output (step g) (n - output)
  plain_after_more g n some = rw (div_ceil_more n output some positive) refl

  -- the same, for the part of the block that the request takes
  pub taken_part : (g : G) (n k : ℕ) → k ≡ min output n → taken block step g n ≡ take k (block g) ++ taken block step (step g) (n - k)
  taken_part g n k part =
      let front : take k (block g) ≡ take n (block g) = ap (λ j. take j (block g))
      (part ∙ ap (λ j. min j n) (sym (size g)) ∙ min_comm (length (block g)) n) ∙ take_min n (block g) in
      let left : n - k ≡ n - output = omega arith in
      rw (front, left) (taken_more g n)

  pub plain_after_part : (g : G) (n k : ℕ) → 0 < n → k ≡ min output n → plain_after step output g n ≡ plain_after step output (step g) (n - k)
  plain_after_part g n k some part =
      let left : n - k ≡ n - output = omega arith in
      rw left (plain_after_more g n some)

  pub length-taken : (g : G) (n : ℕ) → length (taken block step g n) ≡ n
  unfolding taken
  length-taken g n = length-take-le n _ (rw (length-blocks g n) (le-mul_self n output positive))

  -- One step of the loop that fills a buffer: it writes the front of the next block.
  module _ (buffer piece : List ℕ) (filled count : ℕ) (g : G) (open_place : filled < length buffer)
      (part : count ≡ min output (length buffer - filled)) (written : piece ≡ take count (block g)) where
    piece_length : length piece ≡ count
    piece_length = ap length written ∙ length-take-le count (block g) (rw (size g) (omega arith))

    pub filled_length : length (put_mid filled (filled + count - filled) buffer piece) ≡ length buffer
    filled_length = let long = piece_length in grind (arith, common_steps)

    pub filled_bytes : take (filled + count) (put_mid filled (filled + count - filled) buffer piece)
        ++ taken block step (step g) (length buffer - (filled + count)) ≡ take filled buffer
        ++ taken block step g (length buffer - filled)
    filled_bytes =
        let left : length buffer - (filled + count) ≡ (length buffer - filled) - count = omega arith in
        rw (
          take-put_mid filled (filled + count - filled) buffer piece (filled + count) (omega (arith, piece_length))
              (omega arith),
          left,
          append_assoc,
          written,
        )
        (ap (λ rest. take filled buffer ++ rest) (sym (taken_part g (length buffer - filled) count part)))

    pub filled_state : plain_after step output (step g) (length buffer - (filled + count)) ≡ plain_after step output g (length buffer - filled)
    filled_state =
        let left : length buffer - (filled + count) ≡ (length buffer - filled) - count = omega arith in
        rw left (sym (plain_after_part g (length buffer - filled) count (omega arith) part))

  -- a request of at most a block takes the front of the next block
  pub taken_front : (g : G) (n : ℕ) → n ≤ output → taken block step g n ≡ take n (block g)
  taken_front g n few =
      let none : n - n ≡ 0 = omega arith in
      taken_part g n n (omega arith) ∙ rw (none, taken_nothing block step, append-nil) refl

  pub plain_after_front : (g : G) (n : ℕ) → 0 < n → n ≤ output → plain_after step output g n ≡ step g
  plain_after_front g n some few = rw (div_ceil_within n output some few) refl

  -- a request of a block's length takes the next block
  pub taken_block : (g : G) → taken block step g output ≡ block g
  taken_block g = taken_front g output (omega arith) ∙ take_all output (block g) (omega (arith, size g))

  pub delivered_block : (bytes : G → ℕ → List ℕ) → ((g : G) (n : ℕ) → bytes g n ≡ taken block step g n)
      → (g : G) → bytes g output ≡ block g
  delivered_block bytes delivers g = delivers g output ∙ taken_block g
