-- Requests of groups of blocks, each of 64 bytes.
use Rattle.std.proofs.Common.{◌≡◌, ℕ, zero, suc, ◌+◌, ◌-◌, ◌*◌, ◌<◌, ◌≤◌, List, ◌++◌, length, take, drop, arith, ap}
use Rattle.std.proofs.Common.{ap₂, sym, ◌∙◌, append_assoc, length-append, refl}
use Rattle.std.proofs.lemmas.List.{take_at, take_all, drop_at, drop_all, append-nil}
use Rattle.std.proofs.lemmas.Grind.{common_steps}
use Rattle.std.proofs.lemmas.Slice.{take-put_mid}
use Rattle.std.specs.Fn.{iterate}
use borrow.Rule.Slice.PartMut.{put_mid, post_of}
use Rattle.nanorand_core.specs.generators.Blocks.{taken, plain_after}
use Rattle.nanorand_core.specs.support.BlockLemmas.{taken_nothing, taken_more, plain_after_more, length-taken}

-- writing the next piece after the n elements that are done
write_next : (n k : ℕ) (done left piece : List ℕ) → length done ≡ n → put_mid n k (done ++ left) piece ≡ (done ++ piece) ++ drop k left
write_next n k done left piece long =
    ap (λ front. front ++ (piece ++ post_of n k (done ++ left))) (take_at done left n long)
    ∙ ap (λ rest. done ++ (piece ++ drop k rest)) (drop_at done left n long)
    ∙ sym (append_assoc done piece (drop k left))

-- writing the last piece
write_last : (n : ℕ) (done left piece : List ℕ) → length done ≡ n → put_mid n (length (done ++ left) - n) (done ++ left) piece ≡ done ++ piece
write_last n done left piece long =
    let some : length left ≤ length (done ++ left) - n = rw length-append (omega (arith, long)) in
    write_next n (length (done ++ left) - n) done left piece long
    ∙ ap (λ rest. (done ++ piece) ++ rest) (drop_all (length (done ++ left) - n) left some) ∙ append-nil (done ++ piece)

-- writing two pieces, the first of 256 bytes
pub two_written : (out p q : List ℕ) → length out ≡ 512 → length p ≡ 256
    → put_mid 256 (length (put_mid 0 256 out p) - 256) (put_mid 0 256 out p) q ≡ p ++ q
two_written out p q whole first = write_last 256 p (drop 256 out) q first

-- writing four pieces of 64 bytes, one after another
pub four_written : (out p q r s : List ℕ) → length out ≡ 256 → length p ≡ 64 → length q ≡ 64 → length r ≡ 64
    → put_mid 192 (length (put_mid 128 64 (put_mid 64 64 (put_mid 0 64 out p) q) r) - 192) (put_mid 128 64 (put_mid 64 64 (put_mid 0 64 out p) q) r) s
    ≡ p ++ q ++ r ++ s
four_written out p q r s whole first second third =
    let two = write_next 64 64 p (drop 64 out) q first in
    let two_long : length (p ++ q) ≡ 128 = rw length-append (omega (arith, first, second)) in
    let three = ap (λ x. put_mid 128 64 x r) two ∙ write_next 128 64 (p ++ q) (drop 64 (drop 64 out)) r two_long in
    let three_long : length ((p ++ q) ++ r) ≡ 192 = rw length-append (omega (arith, two_long, third)) in
    ap (λ x. put_mid 192 (length x - 192) x s) three
    ∙ write_last 192 ((p ++ q) ++ r) (drop 64 (drop 64 (drop 64 out))) s three_long

module _ {G : Type 0} (block : G → List ℕ) (step : G → G) (size : (g : G) → length (block g) ≡ 64) where
  -- a request of at least a block takes the whole next block first
  taken_block : (g : G) (n : ℕ) → 64 ≤ n → taken block step g n ≡ block g ++ taken block step (step g) (n - 64)
  taken_block g n more =
      taken_more block step 64 (omega arith) size g n
      ∙ ap (λ front. front ++ taken block step (step g) (n - 64)) (take_all n (block g) (omega (arith, size g)))

  -- a request of at least k blocks takes the next k blocks first
  taken_past : (k : ℕ) (g : G) (n : ℕ) → 64 * k ≤ n → taken block step g n ≡ taken block step g (64 * k) ++ taken block step (iterate step k g) (n - 64 * k)
  taken_past zero g n more = let none : n - 64 * 0 ≡ n = omega arith in rw (none, taken_nothing block step g) refl
  taken_past (suc k) g n more =
      let first : 64 * suc k - 64 ≡ 64 * k = omega arith in
      let left : n - 64 - 64 * k ≡ n - 64 * suc k = omega arith in
      let front : taken block step g (64 * suc k) ≡ block g ++ taken block step (step g) (64 * k) =
      taken_block g (64 * suc k) (omega arith) ∙ ap (λ m. block g ++ taken block step (step g) m) first in
      taken_block g n (omega arith)
      ∙ ap (λ rest. block g ++ rest) (taken_past k (step g) (n - 64) (omega arith))
      ∙ rw (left, front, append_assoc) refl

  after_past : (k : ℕ) (g : G) (n : ℕ) → 64 * k ≤ n → plain_after step 64 g n ≡ plain_after step 64 (iterate step k g) (n - 64 * k)
  after_past zero g n more = let none : n - 64 * 0 ≡ n = omega arith in rw none refl
  after_past (suc k) g n more =
      let left : n - 64 - 64 * k ≡ n - 64 * suc k = omega arith in
      let positive : 0 < 64 = omega arith in
      plain_after_more block step 64 positive size g n (omega arith)
      ∙ after_past k (step g) (n - 64) (omega arith) ∙ ap (plain_after step 64 (iterate step (suc k) g)) left

  -- four blocks, and eight
  pub taken_four : (g : G) → taken block step g 256 ≡ block (iterate step 0 g) ++ block (iterate step 1 g)
      ++ block (iterate step 2 g) ++ block (iterate step 3 g)
  taken_four g =
      taken_block g 256 (omega arith)
      ∙ ap (λ rest. block g ++ rest) (taken_block (step g) 192 (omega arith)
      ∙ ap (λ rest. block (step g) ++ rest) (taken_block (step (step g)) 128 (omega arith)
      ∙ ap (λ rest. block (step (step g)) ++ rest) (taken_block (step (step (step g))) 64 (omega arith)
      ∙ ap (λ rest. block (step (step (step g))) ++ rest) (taken_nothing block step (iterate step 4 g)) ∙ append-nil _)))
      ∙ rw (append_assoc, append_assoc) refl

  pub taken_eight : (g : G) → taken block step g 512
      ≡ (block (iterate step 0 g) ++ block (iterate step 1 g) ++ block (iterate step 2 g) ++ block (iterate step 3 g))
      ++ (block (iterate step 4 g) ++ block (iterate step 5 g) ++ block (iterate step 6 g) ++ block (iterate step 7 g))
  taken_eight g =
      taken_past 4 g 512 (omega arith) ∙ ap₂ (λ (x : List ℕ) (y : List ℕ). x ++ y) (taken_four g) (taken_four (iterate step 4 g))

  -- One step of the loop over groups of k blocks: it writes the next group.
  module _ (k : ℕ) (some : 0 < k) (buffer piece : List ℕ) (filled : ℕ) (g : G)
      (room : 64 * k ≤ length buffer - filled) (written : piece ≡ taken block step g (64 * k)) where
    group_length : length piece ≡ 64 * k
    group_length = ap length written ∙ length-taken block step 64 (omega arith) size g (64 * k)

    pub grouped_length : length (put_mid filled (filled + 64 * k - filled) buffer piece) ≡ length buffer
    grouped_length = let long = group_length in grind (arith, common_steps)

    pub grouped_bytes : take (filled + 64 * k) (put_mid filled (filled + 64 * k - filled) buffer piece)
        ++ taken block step (iterate step k g) (length buffer - (filled + 64 * k))
        ≡ take filled buffer ++ taken block step g (length buffer - filled)
    grouped_bytes =
        let left : length buffer - (filled + 64 * k) ≡ (length buffer - filled) - 64 * k = omega arith in
        rw (
          take-put_mid filled (filled + 64 * k - filled) buffer piece (filled + 64 * k)
              (omega (arith, group_length)) (omega (arith, some, room)),
          left,
          append_assoc,
          written,
        )
        (ap (λ rest. take filled buffer ++ rest) (sym (taken_past k g (length buffer - filled) room)))

    pub grouped_state : plain_after step 64 (iterate step k g) (length buffer - (filled + 64 * k)) ≡ plain_after step 64 g (length buffer - filled)
    grouped_state =
        let left : length buffer - (filled + 64 * k) ≡ (length buffer - filled) - 64 * k = omega arith in
        rw left (sym (after_past k g (length buffer - filled) room))
