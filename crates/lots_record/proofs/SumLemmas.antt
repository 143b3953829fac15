-- A SHA-256 is a sum of 32 bytes.
use Rattle.std.proofs.Common.{ℕ, zero, suc, ◌<◌, ◌/◌, ◌%◌, ◌^◌, List, [], ◌∷◌, ◌++◌, slice_index, arith}
use Rattle.std.specs.Int.{byte_at, bytes_high_first}
use Rattle.hex.specs.Hex.{IsBytes}
use Rattle.sha2.specs.Sha256.{digest_bytes, sha256}
use Rattle.sha2.proofs.Facts256.{length-sha256}
use Rattle.lots_record.specs.Record.{IsSum}

small : (n : ℕ) → n % 256 < 256
small n = omega arith

byte_small : (k n : ℕ) → byte_at k n < 256
byte_small zero n = small n
byte_small (suc k) n = small (n / 256 ^ suc k)

word_bytes : (k n : ℕ) → IsBytes (bytes_high_first k n)
word_bytes zero n i = omega arith
word_bytes (suc k) n zero = byte_small k n
word_bytes (suc k) n (suc i) = word_bytes k n i

bytes-append : (xs ys : List ℕ) → IsBytes xs → IsBytes ys → IsBytes (xs ++ ys)
bytes-append [] ys first last i = last i
bytes-append (x ∷ xs) ys first last zero = first zero
bytes-append (x ∷ xs) ys first last (suc i) = bytes-append xs ys (λ j. first (suc j)) last i

digest_is_bytes : (h : List ℕ) (n : ℕ) → IsBytes (digest_bytes h n)
unfolding digest_bytes
digest_is_bytes h zero = λ i. omega arith
digest_is_bytes h (suc n) =
    bytes-append (digest_bytes h n) (bytes_high_first 4 (slice_index h n)) (digest_is_bytes h n) (word_bytes 4 (slice_index h n))

pub sha256_is_sum : (message : List ℕ) → IsSum (sha256 message)
unfolding sha256
sha256_is_sum message = record { long = length-sha256 message; bytes = digest_is_bytes _ 8 }
