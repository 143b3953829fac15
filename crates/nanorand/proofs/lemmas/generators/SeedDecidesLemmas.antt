-- Two Pcg64 with the same seed: requests take the same bytes from them, and leave them with the same seed.
use Rattle.std.proofs.Common.{◌≡◌, ℕ, zero, suc, List, [], ◌∷◌, ◌++◌, refl, ap, ◌∙◌}
use Rattle.std.specs.Prelude.{take}
use Rattle.std.specs.Fn.{iterate}
use Rattle.std.specs.Int.{div_ceil, w64, to_le_bytes}
use Rattle.nanorand_core.specs.generators.Blocks.{blocks, taken}
use Rattle.nanorand_replay.specs.replay.Unbroken.{after_all, taken_all}
use Rattle.nanorand.specs.generators.ChaChaGroups.{DeliverAlike}
use Rattle.nanorand.specs.generators.Halves.{folded}
use Rattle.nanorand.specs.generators.Pcg64.{Generator, next, next_seed, pcg64_block, pcg64_requests}

seeds-after : (n : ℕ) (g h : Generator) → g.seed ≡ h.seed → (iterate next n g).seed ≡ (iterate next n h).seed
seeds-after zero g h same = same
seeds-after (suc n) g h same = seeds-after n (next g) (next h) (ap next_seed same)

blocks-of-seed : (n : ℕ) (g h : Generator) → g.seed ≡ h.seed → blocks pcg64_block next g n ≡ blocks pcg64_block next h n
blocks-of-seed zero g h same = refl
blocks-of-seed (suc n) g h same =
    ap (λ seed. to_le_bytes w64 (folded (next_seed seed)) ++ blocks pcg64_block next (next g) n) same
    ∙ ap (λ rest. pcg64_block h ++ rest) (blocks-of-seed n (next g) (next h) (ap next_seed same))

pub seeds_left : (g h : Generator) (n : ℕ) → g.seed ≡ h.seed → (pcg64_requests.after g n).seed ≡ (pcg64_requests.after h n).seed
seeds_left g h n same = seeds-after (div_ceil n 8) g h same

bytes-of-seed : (g h : Generator) (n : ℕ) → g.seed ≡ h.seed → pcg64_requests.bytes g n ≡ pcg64_requests.bytes h n
unfolding taken
bytes-of-seed g h n same = ap (take n) (blocks-of-seed n g h same)

alike : (g h : Generator) → g.seed ≡ h.seed → (sizes : List ℕ) (n : ℕ)
    → pcg64_requests.bytes (after_all pcg64_requests g sizes) n ≡ pcg64_requests.bytes (after_all pcg64_requests h sizes) n
alike g h same [] n = bytes-of-seed g h n same
alike g h same (m ∷ sizes) n = alike (pcg64_requests.after g m) (pcg64_requests.after h m) (seeds_left g h m same) sizes n

pub deliver_by_seed : (g h : Generator) → g.seed ≡ h.seed → DeliverAlike pcg64_requests g pcg64_requests h
deliver_by_seed g h same = alike g h same

pub all_by_seed : (g h : Generator) (sizes : List ℕ) → g.seed ≡ h.seed → taken_all pcg64_requests g sizes ≡ taken_all pcg64_requests h sizes
all_by_seed g h [] same = refl
all_by_seed g h (n ∷ sizes) same =
    let later = all_by_seed (pcg64_requests.after g n) (pcg64_requests.after h n) sizes (seeds_left g h n same) in
    ap (λ first. first ++ taken_all pcg64_requests (pcg64_requests.after g n) sizes) (bytes-of-seed g h n same)
    ∙ ap (λ rest. pcg64_requests.bytes h n ++ rest) later
