use Rattle.nanorand_core.proofs.lemmas.shuffles.CopyLemmas.{permutation-copies, permutation_by_copies, arrangement-copies, arrangement_by_copies}
use Rattle.nanorand_core.proofs.lemmas.shuffles.PlaceLemmas.{arrangement-below, arrangement-apart}
use Rattle.nanorand_core.proofs.laws.permutations_by_counting.Goals as goal

pub returns : goal.returns
returns c = record {
  permutations = λ xs ys. (permutation-copies xs ys, permutation_by_copies xs ys);
  arrangements = λ order. (arrangement-copies order, arrangement_by_copies order);
  numbers = λ order arrangement. (arrangement-below order arrangement, arrangement-apart order arrangement);
}
