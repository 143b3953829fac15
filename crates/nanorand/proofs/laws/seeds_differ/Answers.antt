use Rattle.std.proofs.Common.{ap, arith}
use Rattle.nanorand.proofs.lemmas.generators.MixLemmas.{words-apart, numbers-apart, states-apart}
use Rattle.nanorand.proofs.laws.seeds_differ.Goals as goal

pub returns-clause-words : goal.returns-clause-words
returns-clause-words c = words-apart

pub returns-clause-wyrand : goal.returns-clause-wyrand
returns-clause-wyrand c m n = numbers-apart 8 m n (omega arith)

pub returns-clause-pcg64 : goal.returns-clause-pcg64
returns-clause-pcg64 c m n m_fits n_fits same = numbers-apart 16 m n (omega arith) m_fits n_fits (ap (λ g. g.seed) same)

pub returns-clause-chacha : goal.returns-clause-chacha
returns-clause-chacha c = states-apart
