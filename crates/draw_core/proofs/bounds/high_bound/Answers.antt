use Rattle.std.proofs.Common.{lit<, length, ap, rules, ◌<◌, ◌≡◌, ◌≢◌, Option, Some, None, List, ℕ, ◌∷◌, arith}
use Rattle.std.proofs.lemmas.Str.Pattern.{strip_prefix_char}
use Rattle.std.specs.declared.ops.Bound.{Bound}
use Rattle.std.specs.declared.ops.Bound.TheVariants.{Included, Excluded, Unbounded}
use Rattle.draw_core.specs.Requests.{IsHigh}
use Rattle.draw_core.proofs.bounds.high_bound.Goals as goal

-- A text that is not empty, does not begin with `=` and is not a number is not a high bound.
no_bound : {N : Type 0} (is_text : List ℕ → N → Type 0) (text : List ℕ) → 0 < length text
    → ((rest : List ℕ) → text ≢ 61 ∷ rest) → ((n : N) → is_text text n → let none : Option N = None in none ≡ Some n)
    → (high : Bound N) → IsHigh is_text text high → ⊥
no_bound is_text text some no_equals no_number (Included n) (digits, whole, said) = no_equals digits whole
no_bound is_text text some no_equals no_number (Excluded n) said = let gives = no_number n said in cc
no_bound is_text text some no_equals no_number Unbounded said = omega (arith, some, ap length said)

-- A text that is not empty, does not begin with `=` and is a number is exactly one high bound.
one_bound : {N : Type 0} (is_text : List ℕ → N → Type 0) (text : List ℕ) (n : N) → 0 < length text → ((rest : List ℕ) → text ≢ 61 ∷ rest)
    → ((m : N) → is_text text m → Some n ≡ Some m) → (high : Bound N) → IsHigh is_text text high → Some (Excluded n) ≡ Some high
one_bound is_text text n some no_equals only (Included m) (digits, whole, said) = absurd (no_equals digits whole)
one_bound is_text text n some no_equals only (Excluded m) said = let same = only m said in cc
one_bound is_text text n some no_equals only Unbounded said = absurd (omega (arith, some, ap length said))

pub returns-in_err-read-in-None-clause-only : goal.returns-in_err-read-in-None-clause-only
returns-in_err-read-in-None-clause-only g c = λ high said.
    absurd (no_bound g.N.ReadNumber.is_text c.args.text.now (search rules)
    (strip_prefix_char 61 c.args.text.now None c.in-None.ensures.cases (lit< tt))
    c.in_err-read-in-None.ensures.only high said)

pub returns-in_ok-read-in-None-clause-found : goal.returns-in_ok-read-in-None-clause-found
returns-in_ok-read-in-None-clause-found g c = c.in_ok-read-in-None.ensures.found

pub returns-in_ok-read-in-None-clause-only : goal.returns-in_ok-read-in-None-clause-only
returns-in_ok-read-in-None-clause-only g c =
    one_bound g.N.ReadNumber.is_text c.args.text.now c.in_ok-read-in-None.field-0 (search rules)
    (strip_prefix_char 61 c.args.text.now None c.in-None.ensures.cases (lit< tt)) c.in_ok-read-in-None.ensures.only
