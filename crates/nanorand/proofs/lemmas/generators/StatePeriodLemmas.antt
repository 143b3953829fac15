-- The states that draws leave repeat after the generator's period, and not before.
use Rattle.std.proofs.Common.{◌≡◌, ℕ, zero, suc, ◌+◌, ◌-◌, ◌*◌, ◌%◌, ◌^◌, ◌<◌, ◌≤◌, List, [], length, ◌∙◌, ap, ap₂, sym, arith}
use Rattle.std.proofs.Math.Nat.{add-mod_right, mod-eq_of_lt}
use Rattle.nanorand_replay.specs.generators.Buffered.{Buffered, buffer_of}
use Rattle.nanorand_replay.specs.support.BufferedLemmas.{after_past}
use Rattle.nanorand.specs.generators.ChaCha.{chacha_after, chacha_requests}
use Rattle.nanorand.specs.generators.ChaChaGroups.{chacha_group, next_group, stream_position, stream_requests}
use Rattle.nanorand.specs.generators.ChaChaRounds.{IsMatrix}
use Rattle.nanorand.specs.generators.Parts.{ComesAgain, NothingTwice, after_draws}
use Rattle.nanorand.specs.generators.Pcg64 as pcg64
use Rattle.nanorand.specs.generators.WyRand as wyrand
use Rattle.nanorand.specs.support.ChaChaDrawLemmas.{chacha_agree, chacha_steps}
use Rattle.nanorand.specs.support.ChaChaGroupLemmas.{length-chacha_group}
use Rattle.nanorand.specs.support.Pcg64DrawLemmas.{pcg64_closed, pcg64_steps}
use Rattle.nanorand.specs.support.WyRandDrawLemmas.{wyrand_closed, wyrand_steps}
use Rattle.nanorand.proofs.lemmas.cycles.ModulusLemmas.{mod_cancel_left}
use Rattle.nanorand.proofs.lemmas.cycles.Pcg64Lemmas as pcg64_lemmas
use Rattle.nanorand.proofs.lemmas.cycles.WyRandLemmas as wyrand_lemmas
use Rattle.nanorand.specs.support.OnwardLemmas.{draws-leave, stream_draws}
use Rattle.nanorand.proofs.lemmas.generators.StreamLemmas.{bytes_agree, position_moves}

-- nothing occurs twice if indices with equal values agree modulo the period
nothing-twice : {S : Type 0} (period : ℕ) (seen : ℕ → S) → ((m n : ℕ) → seen m ≡ seen n → m % period ≡ n % period) → NothingTwice period seen
nothing-twice period seen agree m n low high same = sym (mod-eq_of_lt low) ∙ agree m n same ∙ mod-eq_of_lt high

-- everything occurs again if, at later indices, those that agree modulo the period have equal
-- values
comes-again : {S : Type 0} (period start : ℕ) (seen : ℕ → S) → start < period
    → ((m n : ℕ) → start ≤ m → start ≤ n → m % period ≡ n % period → seen m ≡ seen n) → ComesAgain period seen
comes-again period start seen soon agree =
    (start, soon, λ n from. agree (n + period) n (omega arith) from (add-mod_right n period))

-- for WyRand
module _ (seed : ℕ) (fits : seed < 2 ^ 64) where
  wyrand_seeds : (n : ℕ) → after_draws wyrand.wyrand_requests n seed ≡ wyrand.seed_after n seed
  wyrand_seeds n = draws-leave wyrand.wyrand_requests n seed ∙ wyrand_steps n seed ∙ wyrand_closed n seed fits

  pub wyrand_once : NothingTwice (2 ^ 64) (λ n. after_draws wyrand.wyrand_requests n seed)
  wyrand_once =
      nothing-twice (2 ^ 64) (λ n. after_draws wyrand.wyrand_requests n seed)
      (λ m n same. (wyrand_lemmas.seed_after-agree seed fits m n).0 (sym (wyrand_seeds m) ∙ same ∙ wyrand_seeds n))

  pub wyrand_again : ComesAgain (2 ^ 64) (λ n. after_draws wyrand.wyrand_requests n seed)
  wyrand_again =
      comes-again (2 ^ 64) 0 (λ n. after_draws wyrand.wyrand_requests n seed) (omega arith)
      (λ m n _ _ agree. wyrand_seeds m ∙ (wyrand_lemmas.seed_after-agree seed fits m n).1 agree ∙ sym (wyrand_seeds n))

-- for Pcg64, whose seed determines what is drawn; `state` and `inc` are computed from the first
-- draw on
module _ (g : pcg64.Generator) where
  pcg64_states : (n : ℕ) → after_draws pcg64.pcg64_requests n g ≡ pcg64.pcg64_after n g
  pcg64_states n = draws-leave pcg64.pcg64_requests n g ∙ pcg64_steps n g

  pub pcg64_seeds_once : g.seed < 2 ^ 128 → NothingTwice (2 ^ 126) (λ n. (after_draws pcg64.pcg64_requests n g).seed)
  pcg64_seeds_once fits =
      let closed : (n : ℕ) → (after_draws pcg64.pcg64_requests n g).seed ≡ pcg64.seed_after n g.seed =
      λ n. ap (λ (h : pcg64.Generator). h.seed) (pcg64_states n) ∙ pcg64_closed n g fits in
      nothing-twice (2 ^ 126) (λ n. (after_draws pcg64.pcg64_requests n g).seed)
      (λ m n same. (pcg64_lemmas.seed_after-agree g.seed m n).0 (sym (closed m) ∙ same ∙ closed n))

  pub pcg64_once : g.seed < 2 ^ 128 → NothingTwice (2 ^ 126) (λ n. after_draws pcg64.pcg64_requests n g)
  pcg64_once fits m n low high same = pcg64_seeds_once fits m n low high (ap (λ (h : pcg64.Generator). h.seed) same)

  later : (m n : ℕ) → 1 ≤ m → 1 ≤ n → m % 2 ^ 126 ≡ n % 2 ^ 126 → pcg64.pcg64_after m g ≡ pcg64.pcg64_after n g
  later zero n some _ agree = absurd (omega arith)
  later (suc m) zero _ some agree = absurd (omega arith)
  later (suc m) (suc n) _ _ agree =
      ap₂ (λ (seed before : ℕ). record { seed = seed; state = seed; inc = (2 * before + 1) % 2 ^ 128 })
      ((pcg64_lemmas.seed_after-agree g.seed (suc m) (suc n)).1 agree)
      ((pcg64_lemmas.seed_after-agree g.seed m n).1 (omega (arith, agree)))

  pub pcg64_again : ComesAgain (2 ^ 126) (λ n. after_draws pcg64.pcg64_requests n g)
  pcg64_again =
      comes-again (2 ^ 126) 1 (λ n. after_draws pcg64.pcg64_requests n g) (omega arith)
      (λ m n from also agree. pcg64_states m ∙ later m n from also agree ∙ sym (pcg64_states n))

-- for ChaCha
module _ (R : ℕ) (x : List ℕ) (matrix : IsMatrix x) where
  chacha_states : (n : ℕ) → after_draws (chacha_requests R) n x ≡ chacha_after n x
  chacha_states n = draws-leave (chacha_requests R) n x ∙ chacha_steps n x

  pub chacha_once : NothingTwice (2 ^ 64) (λ n. after_draws (chacha_requests R) n x)
  chacha_once =
      nothing-twice (2 ^ 64) (λ n. after_draws (chacha_requests R) n x)
      (λ m n same. (chacha_agree m n x matrix).0 (sym (chacha_states m) ∙ same ∙ chacha_states n))

  pub chacha_again : ComesAgain (2 ^ 64) (λ n. after_draws (chacha_requests R) n x)
  chacha_again =
      comes-again (2 ^ 64) 0 (λ n. after_draws (chacha_requests R) n x) (omega arith)
      (λ m n _ _ agree. chacha_states m ∙ (chacha_agree m n x matrix).1 agree ∙ sym (chacha_states n))

-- for a stream of ChaCha, where the bytes that were buffered at first do not occur again
module _ (R : ℕ) (b : Buffered (List ℕ)) (matrix : IsMatrix b.inner) where
  pub stream_once : length b.rest < 512 → NothingTwice (2 ^ 67) (λ n. after_draws (stream_requests R) n b)
  stream_once below =
      let moved : (n : ℕ) → stream_position (after_draws (stream_requests R) n b) ≡ (stream_position b + n * 8) % 2 ^ 70 =
      λ n. ap stream_position (stream_draws R n b) ∙ position_moves R b (n * 8) matrix below in
      nothing-twice (2 ^ 67) (λ n. after_draws (stream_requests R) n b)
      (λ m n same.
      let bytes = mod_cancel_left (2 ^ 70) (stream_position b) (m * 8) (n * 8) (sym (moved m) ∙ ap stream_position same ∙ moved n) in
      let draws : m % 2 ^ 67 ≡ n % 2 ^ 67 = omega (arith, bytes) in draws)

  past_buffered : (n : ℕ) → length b.rest ≤ n
      → after_draws (stream_requests R) n b ≡ (stream_requests R).after (buffer_of [] b.inner) (n * 8 - length b.rest)
  past_buffered n past =
      stream_draws R n b ∙ after_past (chacha_group R) next_group 512 (omega arith) (length-chacha_group R) b (n * 8) (omega arith)

  pub stream_again : length b.rest < 512 → ComesAgain (2 ^ 67) (λ n. after_draws (stream_requests R) n b)
  stream_again below =
      comes-again (2 ^ 67) (length b.rest) (λ n. after_draws (stream_requests R) n b) (omega arith)
      (λ m n from also agree.
      past_buffered m from
      ∙ bytes_agree b.inner matrix R (m * 8 - length b.rest) (n * 8 - length b.rest) (omega (arith, agree))
      ∙ sym (past_buffered n also))
