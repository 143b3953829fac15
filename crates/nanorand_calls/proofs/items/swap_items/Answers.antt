use Rattle.std.proofs.Common.{◌≡◌, ◌*◌, length, arith}
use Rattle.nanorand_calls.proofs.ItemLemmas.{item-within, whole-within, items-apart, swapped-none, swapped-more, items-swapped, rest-same}
use Rattle.nanorand_calls.proofs.items.swap_items.Goals as goal

pub loop-place-init : goal.loop-place-init
loop-place-init c = swapped-none (c.args.a * c.args.size) (c.args.b * c.args.size) c.args.bytes.now

pub loop-place-preserved : goal.loop-place-preserved
loop-place-preserved c =
    let size = c.args.size in
    let old = c.args.bytes.now in
    let one = item-within size (length old) c.args.a c.requires.first in
    let two = item-within size (length old) c.args.b c.requires.second in
    let whole = whole-within size (length old) in
    rw c.swap.ensures
    (swapped-more (c.args.a * size) (c.args.b * size) size c.loop-place.place old c.loop-place.bytes
    (items-apart size c.args.a c.args.b) c.loop-place-test.true (omega arith) (omega arith) c.loop-place.invariant)

pub returns-clause-items : goal.returns-clause-items
returns-clause-items c =
    let done : c.loop-place.place ≡ c.args.size = omega arith in
    items-swapped c.args.size c.args.a c.args.b c.args.bytes.now c.loop-place.bytes (omega arith) c.requires.first c.requires.second
    (rw done at c.loop-place.invariant)

pub returns-clause-rest : goal.returns-clause-rest
returns-clause-rest c =
    let done : c.loop-place.place ≡ c.args.size = omega arith in
    rest-same c.args.size c.args.a c.args.b c.args.bytes.now c.loop-place.bytes (omega arith) c.requires.first c.requires.second
    (rw done at c.loop-place.invariant)
