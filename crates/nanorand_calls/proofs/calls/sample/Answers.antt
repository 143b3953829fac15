use Rattle.std.proofs.Common.{length, refl, rules}
use Rattle.std.proofs.lemmas.Bool.{lt-ltb}
use Rattle.nanorand_calls.proofs.calls.sample.Goals as goal

pub returns-then-count-places-clause-status : goal.returns-then-count-places-clause-status
returns-then-count-places-clause-status g c = rw (lt-ltb c.args.count (length c.args.places.now) c.if-count-places.true) refl

pub returns-then-count-places-clause-places : goal.returns-then-count-places-clause-places
returns-then-count-places-clause-places g c = search rules

pub returns-then-count-places-clause-state : goal.returns-then-count-places-clause-state
returns-then-count-places-clause-state g c = search rules

pub returns-clause-status : goal.returns-clause-status
returns-clause-status g c = search rules

pub returns-clause-places : goal.returns-clause-places
returns-clause-places g c = search rules

pub returns-clause-state : goal.returns-clause-state
returns-clause-state g c = search rules
