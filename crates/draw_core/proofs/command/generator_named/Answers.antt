use Rattle.std.proofs.Common.{◌≡◌, codes, length, get_or, Some, ap, refl, arith}
use Rattle.draw_core.specs.Arguments.{name_of_generator}
use Rattle.draw_core.specs.declared.command.Generator.{Generator}
use Rattle.draw_core.specs.declared.command.Generator.TheVariants.{WyRand, Pcg64, ChaCha8, ChaCha12, ChaCha20}
use Rattle.draw_core.proofs.command.generator_named.Goals as goal

-- No other generator has that name.
only_chacha12 : (generator : Generator) → codes "chacha12" ≡ name_of_generator generator → Some ChaCha12 ≡ Some generator
only_chacha12 WyRand same = let sizes : 8 ≡ 6 = ap length same in absurd (omega (arith, sizes))
only_chacha12 Pcg64 same = let sizes : 8 ≡ 5 = ap length same in absurd (omega (arith, sizes))
only_chacha12 ChaCha8 same = let sizes : 8 ≡ 7 = ap length same in absurd (omega (arith, sizes))
only_chacha12 ChaCha12 same = refl
only_chacha12 ChaCha20 same = let bytes : 49 ≡ 50 = ap (λ name. get_or name 6 0) same in absurd (omega (arith, bytes))

pub returns-in-chacha12-clause-found : goal.returns-in-chacha12-clause-found
returns-in-chacha12-clause-found c = c.in-chacha12.is

pub returns-in-chacha12-clause-only : goal.returns-in-chacha12-clause-only
returns-in-chacha12-clause-only c = λ generator named. only_chacha12 generator (rw c.in-chacha12.is at named)
