use Rattle.std.proofs.Common.{refl}
use Rattle.nanorand.proofs.lemmas.generators.WordLemmas.{wyrand_number, pcg64_number, pcg64_one}
use Rattle.nanorand.proofs.laws.words_as_numbers.Goals as goal

pub returns : goal.returns
returns c = record {
  wyrand = wyrand_number;
  wyrand_state = λ _. refl;
  pcg64 = pcg64_number;
  pcg64_state = pcg64_one;
}
