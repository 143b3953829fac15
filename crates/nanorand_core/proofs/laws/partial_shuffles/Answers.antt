use Rattle.nanorand_core.specs.shuffles.Shuffles.{from_itself}
use Rattle.nanorand_core.proofs.lemmas.shuffles.PartialLemmas.{partial-begins, partial-whole, partial-first, partial-arrangement}
use Rattle.nanorand_core.proofs.laws.partial_shuffles.Goals as goal

pub returns : goal.returns
returns g c = record {
  begins = λ steps rng items. partial-begins g.G.Rng.requests from_itself steps rng items;
  whole = λ steps rng items all. partial-whole g.G.Rng.requests from_itself steps rng items all;
  first = λ steps rng items. partial-first g.G.Rng.requests steps rng items;
  arrangement = λ steps rng items. partial-arrangement g.G.Rng.requests steps rng items;
}
