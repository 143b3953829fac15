use Rattle.nanorand_users.proofs.lemmas.HandLemmas.{hands-rest}
use Rattle.nanorand_users.proofs.deals.hands_and_rest_are_the_deck.Goals as goal

pub returns : goal.returns
returns c = hands-rest
