use Rattle.std.proofs.Common.{◌≡◌, ℕ, ap, sym, ◌∙◌, arith}
use Rattle.nanorand_core.specs.values.Runs.{named}
use Rattle.nanorand_core.specs.values.Draws.{after_word, word_limit}
use Rattle.nanorand_core.specs.values.Draws.{next_word as word_of}
use Rattle.nanorand_core.proofs.lemmas.ranges.DrawLemmas.{Ended, last_word, next_word}
use Rattle.nanorand.specs.generators.WyRand.{wyrand_requests}
use Rattle.nanorand.proofs.lemmas.generators.WordLemmas.{wyrand_number}
use Rattle.nanorand.proofs.rand.wyrand.searched.Invariants.{before}
use Rattle.nanorand.proofs.rand.wyrand.searched.Goals as goal

pub words-init : goal.words-init
words-init c = (omega arith, record { reached = omega arith; passed = λ j under. absurd (omega arith) })

pub words-preserved : goal.words-preserved
words-preserved c =
    let word : c.word.result ≡ word_of wyrand_requests 64 c.words.now = c.word.ensures ∙ sym (wyrand_number c.words.now) in
    let is : named 64 c.args.left c.word.result ≡ c.pick_word-number.result =
    ap (λ (n : ℕ). named 64 n c.word.result) (sym c.from.ensures) ∙ sym c.pick_word-number.ensures.value in
    next_word _ _ _ _ _ _ c.words.number _ c.words.drawn _ c.words.now _ c.words.invariant c.is_none.ensures c.words-test.true word is

over : (c : goal.After-words) → Ended (word_of wyrand_requests 64) (after_word wyrand_requests 64) word_limit 64 c.args.left (before c.args.after) c.words.number c.words.now
over c = last_word _ _ _ _ _ _ c.words.number c.words.drawn c.words.now _ c.words.invariant c.is_none.ensures c.words-test.false

pub returns : goal.returns
returns c = record { below = (over c).below; number = (over c).number; state = (over c).state }
