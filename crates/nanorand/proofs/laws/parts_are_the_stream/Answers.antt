use Rattle.nanorand.proofs.lemmas.generators.PartLemmas.{next-part, number-of-part, parts-joined}
use Rattle.nanorand.proofs.laws.parts_are_the_stream.Goals as goal

pub returns : goal.returns
returns g c = record {
  numbers = number-of-part g.G.Rng.requests;
  joined = parts-joined g.G.Rng.requests;
  next = next-part g.G.Rng.requests;
}
