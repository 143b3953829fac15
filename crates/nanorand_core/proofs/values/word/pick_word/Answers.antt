use Rattle.std.proofs.Common.{◌≡◌, ◌^◌, sym}
use Rattle.nanorand_core.proofs.lemmas.ranges.RunLemmas.{Some-named, names-itself, size-is_whole, named-Names}
use Rattle.nanorand_core.proofs.values.word.pick_word.Goals as goal

pub returns-then-size-from-clause-value : goal.returns-then-size-from-clause-value
returns-then-size-from-clause-value c =
    let past = rw c.from.ensures at c.if-size-from.true in
    let whole : c.args.size ≡ 2 ^ c.args.bits = size-is_whole c.args.bits c.args.size c.requires.width c.requires.within past in
    rw whole (sym (names-itself c.args.bits c.args.word c.requires.fits))

pub returns-then-size-from-clause-names : goal.returns-then-size-from-clause-names
returns-then-size-from-clause-names c =
    Some-named c.args.bits c.args.size c.args.word c.args.word (sym (returns-then-size-from-clause-value c))

pub returns-clause-names : goal.returns-clause-names
returns-clause-names c =
    rw c.pick_below.ensures (named-Names c.args.bits c.args.size c.args.word c.requires.some)
