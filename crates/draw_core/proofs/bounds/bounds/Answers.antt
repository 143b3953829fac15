use Rattle.std.proofs.Common.{◌≡◌, Some, None}
use Rattle.draw_core.proofs.lemmas.RangeText.{parts_of_range, range_from_parts}
use Rattle.draw_core.proofs.bounds.bounds.Goals as goal

pub returns-in_err-low-clause-only : goal.returns-in_err-low-clause-only
returns-in_err-low-clause-only g c = λ low high said.
    absurd (rw c.in_err-low.was at (parts_of_range g.N.ReadNumber.is_text g.met.N.ReadNumber.is_plain c.args.text.now
    c.split_once.result c.split_once.ensures.cases low high said))

pub returns-in_err-low_bound-clause-only : goal.returns-in_err-low_bound-clause-only
returns-in_err-low_bound-clause-only g c = λ low high said.
    let parts = rw c.in_ok-low.was at (parts_of_range g.N.ReadNumber.is_text g.met.N.ReadNumber.is_plain
    c.args.text.now c.split_once.result c.split_once.ensures.cases low high said) in
    let gives : None ≡ Some low = c.in_err-low_bound.ensures.only low parts.0 in cc

pub returns-in_err-high_bound-clause-only : goal.returns-in_err-high_bound-clause-only
returns-in_err-high_bound-clause-only g c = λ low high said.
    let parts = rw c.in_ok-low.was at (parts_of_range g.N.ReadNumber.is_text g.met.N.ReadNumber.is_plain
    c.args.text.now c.split_once.result c.split_once.ensures.cases low high said) in
    let gives : None ≡ Some high = c.in_err-high_bound.ensures.only high parts.1 in cc

pub returns-clause-found : goal.returns-clause-found
returns-clause-found g c =
    range_from_parts g.N.ReadNumber.is_text c.args.text.now c.in_ok-low.low c.in_ok-low.high c.in_ok-low_bound.field-0
    c.in_ok-high_bound.field-0 (rw c.in_ok-low.was at c.split_once.ensures.cases) c.in_ok-low_bound.ensures.found
    c.in_ok-high_bound.ensures.found

pub returns-clause-only : goal.returns-clause-only
returns-clause-only g c = λ low high said.
    let parts = rw c.in_ok-low.was at (parts_of_range g.N.ReadNumber.is_text g.met.N.ReadNumber.is_plain
    c.args.text.now c.split_once.result c.split_once.ensures.cases low high said) in
    let gives_low = c.in_ok-low_bound.ensures.only low parts.0 in
    let gives_high = c.in_ok-high_bound.ensures.only high parts.1 in cc
