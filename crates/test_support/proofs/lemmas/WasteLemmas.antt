-- The shuffles of `Waste` are those of `Steps`: a request of eight bytes drops no block.
use Rattle.std.proofs.Common.{◌≡◌, ℕ, zero, suc, ◌+◌, refl}
use Rattle.nanorand_core.specs.generators.Blocks.{Requests, plain}
use Rattle.nanorand_core.specs.shuffles.Shuffles.{from_itself, partner_drawn, choices_from, state_after_places}
use Rattle.test_support.specs.Steps.{next_count, steps_block}
use Rattle.test_support.specs.Waste.{waste_requests}

abbrev steps_requests : Requests ℕ
steps_requests = plain steps_block next_count 8

partner : (n i g : ℕ) → partner_drawn waste_requests from_itself n i g ≡ partner_drawn steps_requests from_itself n i g
unfolding partner_drawn
partner n i g = refl

pub choices : (n i left g : ℕ) → choices_from waste_requests from_itself n i left g ≡ choices_from steps_requests from_itself n i left g
unfolding choices_from
choices n i zero g = refl
choices n i (suc left) g =
    rw (partner n i g, choices n (i + 1) left (partner_drawn steps_requests from_itself n i g).1) refl

pub state : (n i left g : ℕ) → state_after_places waste_requests from_itself n i left g ≡ state_after_places steps_requests from_itself n i left g
unfolding state_after_places
state n i zero g = refl
state n i (suc left) g =
    rw (partner n i g, state n (i + 1) left (partner_drawn steps_requests from_itself n i g).1) refl
