use Rattle.nanorand.proofs.lemmas.cycles.WyRandFrequencyLemmas.{wyrand_words_of_the_cycle, zero_comes_twice, some_word_never_comes}
use Rattle.nanorand.proofs.laws.wyrand_words_are_not_equally_frequent.Goals as goal

pub returns : goal.returns
returns c = record {
  seeds = λ seed w fits. wyrand_words_of_the_cycle seed fits w;
  twice = zero_comes_twice;
  never = some_word_never_comes;
}
