use Rattle.std.proofs.Common.{ℕ, ◌^◌, ◌<◌, List, ap, ◌∙◌, sym, arith}
use Rattle.rand_core.proofs.StepsLemmas.{next_u64-stream_of}
use Rattle.rand_core.specs.Stream.{Stream}
use Rattle.rand_chacha.specs.Block.{block_word}
use Rattle.rand_chacha.specs.ChaCha.{ChaCha}
use Rattle.nanorand_rand_users.proofs.our_draws.kits_number.Goals as goal

-- A word of ChaCha has 32 bits.
word_fits : (rounds : ℕ) (key : List ℕ) (counter nonce k : ℕ) → block_word rounds key counter nonce k < 2 ^ 32
unfolding block_word
word_fits rounds key counter nonce k = omega arith

pub returns : goal.returns
returns c =
    c.generate.ensures.value
    ∙ ap (λ (p : ℕ × ChaCha). p.0) (c.requests_are_calls_32.ensures.number c.args.rng.now (word_fits _ _ _ _ _) (word_fits _ _ _ _ _))
    ∙ ap (λ (p : ℕ × Stream). p.0) (sym (next_u64-stream_of _ c.args.rng.now))
