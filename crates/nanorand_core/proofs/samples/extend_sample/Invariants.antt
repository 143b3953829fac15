use Rattle.std.proofs.Common.{◌≡◌, ℕ, ◌+◌, ◌-◌, ◌*◌, ◌≤◌, length, take, drop}
use Rattle.nanorand_core.specs.values.Draws.{word_limit, after_words}
use Rattle.nanorand_core.specs.samples.Samples.{DifferentBelow, extended, sampled_from}
use Rattle.nanorand_core.specs.support.Chains.{Chained}
use Rattle.nanorand_core.proofs.samples.extend_sample.Given as goal

-- the slots so far hold the sample so far, and the others are unchanged
abbrev pub invariant-loop-slot : goal.invariant-loop-slot
invariant-loop-slot g l =
    let requests = g.G.Rng.requests in
    let first = l.count - length l.fn.places in
    let sample = take l.slot l.places in
    record {
      sampling : sampled_from requests (first + l.slot) (length l.fn.places - l.slot) l.rng sample
          ≡ extended requests l.count l.fn.rng l.fn.places l.filled;
      rest : drop l.slot l.places ≡ drop l.slot l.fn.places;
      different : DifferentBelow (first + l.filled) (take l.filled l.fn.places)
          → DifferentBelow (first + l.slot) sample;
      words : (n : ℕ) × (n ≤ word_limit * (l.slot - l.filled)) × (l.rng ≡ after_words requests 64 n l.fn.rng);
      chained : Chained l.chains l.places l.slot l.table;
    }
