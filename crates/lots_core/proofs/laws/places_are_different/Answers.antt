use Rattle.nanorand_core.specs.shuffles.Arrangements.{rising}
use Rattle.lots_core.specs.Draws.{drawing, start_of}
use Rattle.lots_core.proofs.lemmas.PlaceLemmas.{front-deal}
use Rattle.lots_core.proofs.laws.places_are_different.Goals as goal

pub returns : goal.returns
returns c = λ seed count n within.
    front-deal c.permutations_by_counting.ensures.numbers count n (drawing seed count (rising n)).items within
    (c.partial_shuffles.ensures.arrangement count (start_of seed) (rising n))
