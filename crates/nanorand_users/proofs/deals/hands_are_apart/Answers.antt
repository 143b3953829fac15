use Rattle.nanorand_users.proofs.lemmas.HandLemmas.{hands-apart}
use Rattle.nanorand_users.proofs.deals.hands_are_apart.Goals as goal

pub returns : goal.returns
returns c = hands-apart
