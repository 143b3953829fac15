use Rattle.std.proofs.Common.{rules, ◌≡◌, ℕ, ◌+◌, ◌*◌, ◌/◌, ◌%◌, ◌^◌, List, Option, Some, sym, ◌∙◌, ap, subst, arith}
use Rattle.std.specs.Fmt.{DisplaysOnOk}
use Rattle.nanorand.proofs.lemmas.generators.HexadecimalLemmas.{hexadecimal_words}
use Rattle.nanorand.specs.generators.DebugTexts.{hexadecimal}
use Rattle.nanorand.proofs.rand.hexadecimal.HexadecimalDisplay.fmt.Goals as goal

pub returns-else-high-eq0-clause-writes : goal.returns-else-high-eq0-clause-writes
returns-else-high-eq0-clause-writes g c =
    let n : ℕ = c.args.self.now.0 in
    let whole : n / 2 ^ 64 * 2 ^ 64 + n % 2 ^ 64 ≡ n = omega arith in
    let words = hexadecimal_words (n / 2 ^ 64) (n % 2 ^ 64) (search rules) (search rules) (omega arith) in
    let P : Option (List ℕ) → Type 0 = λ text.
    DisplaysOnOk g.W.Write.write_str_gives c.args.f.now c.write-else-high-eq0.result text c.write-else-high-eq0.new.self in
    subst P {y = Some (hexadecimal n)}
    (rw (c.in_radix-else-high-eq0.ensures, c.laid_out.ensures, c.in_radix-else-high-eq0-2.ensures)
    (ap Some (sym words ∙ ap hexadecimal whole)))
    c.write-else-high-eq0.ensures.writes
