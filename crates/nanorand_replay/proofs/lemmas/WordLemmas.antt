-- The bytes of words that are drawn one after another are consecutive in the bytes of one request.
use Rattle.std.proofs.Common.{◌≡◌, ℕ, zero, suc, ◌+◌, ◌-◌, ◌*◌, ◌/◌, ◌<◌, ◌++◌, length, map, take, drop, sym, ◌∙◌, ap, arith}
use Rattle.std.specs.Fn.{iterate}
use Rattle.std.specs.List.{range_with_len}
use Rattle.std.proofs.Math.Nat.{add_comm, add-mul, suc-mul, zero-mul}
use Rattle.std.proofs.lemmas.List.{take_at, drop_at}
use Rattle.std.proofs.lemmas.List.FromFn.{fill_by_all, length-map-range_with_len, get_or-map-range_with_len}
use Rattle.nanorand_core.specs.generators.Blocks.{Requests}
use Rattle.nanorand_core.specs.values.Draws.{next_word, after_word, words_from}
use Rattle.nanorand_core.specs.values.Values.{number_of}

module _ {G : Type 0} (requests : Requests G)
    (nothing : (g : G) → requests.after g 0 ≡ g)
    (states : (g : G) (m n : ℕ) → requests.after (requests.after g m) n ≡ requests.after g (m + n))
    (takes : (g : G) (m n : ℕ) → requests.bytes g m ++ requests.bytes (requests.after g m) n ≡ requests.bytes g (m + n))
    (long : (g : G) (n : ℕ) → length (requests.bytes g n) ≡ n)
  where
    -- i requests of k bytes leave the same state as one request for all their bytes
    after-words : (i k : ℕ) (g : G) → iterate (λ h. requests.after h k) i g ≡ requests.after g (i * k)
    after-words zero k g = rw zero-mul (sym (nothing g))
    after-words (suc i) k g =
        after-words i k (requests.after g k) ∙ states g k (i * k)
        ∙ ap (requests.after g) (sym (suc-mul i k ∙ add_comm (i * k) k))

    -- the bytes of request i of n
    word-bytes : (n i k : ℕ) (g : G) → i < n
        → requests.bytes (iterate (λ h. requests.after h k) i g) k ≡ take k (drop (i * k) (requests.bytes g (n * k)))
    word-bytes n i k g low =
        let before = requests.bytes g (i * k) in
        let here = requests.after g (i * k) in
        let left : ℕ = n - i - 1 in
        let later = requests.bytes (requests.after here k) (left * k) in
        let split : n ≡ i + suc left = omega arith in
        let parts : n * k ≡ i * k + (k + left * k) = ap (λ m. m * k) split ∙ omega (arith, add-mul i (suc left) k, suc-mul left k) in
        let whole : requests.bytes g (n * k) ≡ before ++ (requests.bytes here k ++ later) =
        ap (requests.bytes g) parts ∙ sym (takes g (i * k) (k + left * k)) ∙ ap (λ bytes. before ++ bytes) (sym (takes here k (left * k))) in
        ap (λ h. requests.bytes h k) (after-words i k g)
        ∙ sym (take_at (requests.bytes here k) later k (long here k))
        ∙ ap (take k) (sym (drop_at before (requests.bytes here k ++ later) (i * k) (long g (i * k))))
        ∙ ap (λ bytes. take k (drop (i * k) bytes)) (sym whole)

    pub words-in-turn : (bits n : ℕ) (g : G) → words_from (next_word requests bits) (after_word requests bits) n g
        ≡ map (λ i. number_of (take (bits / 8) (drop (i * (bits / 8)) (requests.bytes g (n * (bits / 8)))))) (range_with_len 0 n)
    unfolding words_from
    words-in-turn bits n g =
        let k = bits / 8 in
        let word : ℕ → ℕ = λ i. next_word requests bits (iterate (after_word requests bits) i g) in
        fill_by_all (λ i. number_of (take k (drop (i * k) (requests.bytes g (n * k))))) (map word (range_with_len 0 n)) n 0
        (length-map-range_with_len word 0 n)
        (λ i low. get_or-map-range_with_len word 0 n i i 0 low (omega arith) ∙ ap number_of (word-bytes n i k g low))
