use Rattle.nanorand_core.proofs.lemmas.FairSampleLemmas.{numbers_are_fair}
use Rattle.nanorand_core.proofs.lemmas.FairSetLemmas.{sets_are_fair}
use Rattle.nanorand_core.proofs.laws.samples_are_fair.Goals as goal

pub returns : goal.returns
returns c = record { numbers = numbers_are_fair; sets = sets_are_fair }
