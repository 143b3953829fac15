use Rattle.std.proofs.Common.{◌≡◌, ℕ, ◌+◌, ◌-◌, ◌*◌, ◌/◌, ◌%◌, ◌^◌, Some, false, nat_lt, sym, ap, ap₂, ◌∙◌, arith}
use Rattle.std.proofs.lemmas.Bool.{le-ltb}
use Rattle.nanorand_core.specs.values.Runs.{named}
use Rattle.nanorand_core.specs.values.Draws.{after_word, drawn_below, next_word, word_limit}
use Rattle.nanorand_core.proofs.lemmas.ranges.DrawLemmas.{Ended, first_word}
use Rattle.nanorand_core.proofs.lemmas.ranges.RunLemmas.{judged-high, named-judged}
use Rattle.nanorand.specs.generators.WyRand.{increment, wyrand_requests}
use Rattle.nanorand.proofs.lemmas.generators.WordLemmas.{wyrand_number}
use Rattle.nanorand.proofs.rand.wyrand.below.Goals as goal

accepted : (c : goal.Then-low-left)
    → Ended (next_word wyrand_requests 64) (after_word wyrand_requests 64) word_limit 64 c.args.left c.args.seed
    (Some (c.from.result * c.from-2.result / 2 ^ 64)) (after_word wyrand_requests 64 c.args.seed)
accepted c =
    let drawn : c.word.result ≡ next_word wyrand_requests 64 c.args.seed = c.word.ensures ∙ sym (wyrand_number c.args.seed) in
    let product : c.from.result * c.from-2.result ≡ c.word.result * c.args.left = ap₂ (λ a b. a * b) c.from.ensures c.from-2.ensures in
    let high : nat_lt (c.word.result * c.args.left % 2 ^ 64) c.args.left ≡ false =
    le-ltb _ _ (rw (← product) (omega arith)) in
    let is : named 64 c.args.left c.word.result ≡ Some (c.from.result * c.from-2.result / 2 ^ 64) =
    named-judged 64 c.args.left c.word.result (omega arith) (omega arith) ∙ judged-high 64 c.args.left _ (omega arith) high
    ∙ ap (λ n. Some (n / 2 ^ 64)) (sym product) in
    (first_word (next_word wyrand_requests 64) (after_word wyrand_requests 64) word_limit 64 c.args.left c.args.seed _ _ (omega arith) drawn is).1

pub returns-then-low-left-clause-number : goal.returns-then-low-left-clause-number
returns-then-low-left-clause-number c = (accepted c).number

pub returns-then-low-left-clause-state : goal.returns-then-low-left-clause-state
returns-then-low-left-clause-state c = (accepted c).state

pub returns-else-low-left-clause-number : goal.returns-else-low-left-clause-number
returns-else-low-left-clause-number c =
    let seed : ((c.args.seed + increment) % 2 ^ 64 + (2 ^ 64 - increment)) % 2 ^ 64 ≡ c.args.seed = omega arith in
    c.searched.ensures.number ∙ ap (λ (n : ℕ). (drawn_below wyrand_requests 64 c.args.left n).number) seed

pub returns-else-low-left-clause-state : goal.returns-else-low-left-clause-state
returns-else-low-left-clause-state c =
    let seed : ((c.args.seed + increment) % 2 ^ 64 + (2 ^ 64 - increment)) % 2 ^ 64 ≡ c.args.seed = omega arith in
    c.searched.ensures.state ∙ ap (λ (n : ℕ). (drawn_below wyrand_requests 64 c.args.left n).state) seed
