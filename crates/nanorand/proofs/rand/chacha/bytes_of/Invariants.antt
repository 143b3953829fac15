use Rattle.std.proofs.Common.{◌≡◌, ◌*◌, length, take}
use Rattle.nanorand.specs.generators.ChaCha.{bytes}
use Rattle.nanorand.proofs.rand.chacha.bytes_of.Given as goal

abbrev pub invariant-words : goal.invariant-words
invariant-words l = record {
  whole : length l.bytes ≡ 64;
  written : take (4 * l.i) l.bytes ≡ bytes (take l.i l.words);
}
