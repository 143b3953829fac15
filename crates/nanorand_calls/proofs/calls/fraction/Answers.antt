use Rattle.std.proofs.Common.{◌/◌, ◌^◌, ◌<◌, arith}
use Rattle.nanorand_calls.proofs.FractionLemmas.{quotient-exact, fraction-within}
use Rattle.nanorand_calls.proofs.calls.fraction.Goals as goal

pub returns-clause-value : goal.returns-clause-value
returns-clause-value c =
    let low : c.args.word / 2 ^ 11 < 2 ^ 53 = omega arith in
    quotient-exact (c.args.word / 2 ^ 11) low

pub returns-clause-within : goal.returns-clause-within
returns-clause-within c =
    let low : c.args.word / 2 ^ 11 < 2 ^ 53 = omega arith in
    fraction-within _ (c.args.word / 2 ^ 11) low (quotient-exact (c.args.word / 2 ^ 11) low)
