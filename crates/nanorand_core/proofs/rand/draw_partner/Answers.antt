use Rattle.std.proofs.Common.{arith}
use Rattle.nanorand_core.proofs.lemmas.shuffles.PartnerLemmas.{partner-number, partner-exhausted, partner-state}
use Rattle.nanorand_core.proofs.rand.draw_partner.Goals as goal

pub returns-in-Some-clause-value : goal.returns-in-Some-clause-value
returns-in-Some-clause-value g c =
    partner-number _ _ _ _ c.requires (omega (arith, c.ranges.count.fits)) c.in-Some.ahead c.in-Some.ensures.below c.in-Some.ensures.number

pub returns-in-Some-clause-state : goal.returns-in-Some-clause-state
returns-in-Some-clause-state g c =
    partner-state _ _ _ _ c.requires (omega (arith, c.ranges.count.fits)) _ c.draw_below.ensures.state

pub returns-in-None-clause-value : goal.returns-in-None-clause-value
returns-in-None-clause-value g c =
    partner-exhausted _ _ _ _ c.requires (omega (arith, c.ranges.count.fits)) c.in-None.ensures.number

pub returns-in-None-clause-state : goal.returns-in-None-clause-state
returns-in-None-clause-state g c =
    partner-state _ _ _ _ c.requires (omega (arith, c.ranges.count.fits)) _ c.draw_below.ensures.state
