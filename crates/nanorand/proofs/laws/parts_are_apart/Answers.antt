use Rattle.nanorand.proofs.lemmas.generators.StatePeriodLemmas.{chacha_once, pcg64_seeds_once, stream_once, wyrand_once}
use Rattle.nanorand.proofs.lemmas.generators.PartLemmas.{parts-apart}
use Rattle.nanorand.proofs.lemmas.generators.StreamLemmas.{bytes-once}
use Rattle.nanorand.proofs.laws.parts_are_apart.Goals as goal

pub returns-clause-wyrand : goal.returns-clause-wyrand
returns-clause-wyrand g c seed fits = parts-apart _ _ (wyrand_once seed fits)

pub returns-clause-pcg64 : goal.returns-clause-pcg64
returns-clause-pcg64 g c start fits = parts-apart _ _ (pcg64_seeds_once start fits)

pub returns-clause-chacha : goal.returns-clause-chacha
returns-clause-chacha g c x matrix = parts-apart _ _ (chacha_once g.row.ROUNDS x matrix)

pub returns-clause-streams : goal.returns-clause-streams
returns-clause-streams g c b matrix below = parts-apart _ _ (stream_once g.row.ROUNDS b matrix below)

pub returns-clause-bytes : goal.returns-clause-bytes
returns-clause-bytes g c = bytes-once g.row.ROUNDS
