use Rattle.nanorand.proofs.lemmas.cycles.FrequencyLemmas.{pcg64_words_of_a_cycle, pcg64_events_of_a_cycle}
use Rattle.nanorand.proofs.laws.pcg64_words_are_equally_frequent.Goals as goal

pub returns : goal.returns
returns c = record {
  words = λ seed w _ w_fits. pcg64_words_of_a_cycle seed w w_fits;
  events = λ seed test _. pcg64_events_of_a_cycle seed test;
}
