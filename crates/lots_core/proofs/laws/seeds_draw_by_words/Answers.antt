use Rattle.std.proofs.Common.{◌≡◌, ◌*◌, length, map, take, drop, min, ◌∙◌, ap, arith}
use Rattle.std.proofs.lemmas.List.FromFn.{length-range_with_len}
use Rattle.nanorand_core.specs.shuffles.Arrangements.{rising}
use Rattle.nanorand_core.specs.shuffles.Shuffles.{arranged}
use Rattle.nanorand_core.specs.values.Draws.{word_limit}
use Rattle.nanorand_core.specs.values.Values.{number_of}
use Rattle.nanorand_fairness.specs.Deals.{choices_by, deal_sizes}
use Rattle.nanorand_fairness.specs.InTurn.{numbers_in_turn}
use Rattle.lots_core.specs.Draws.{start_of}
use Rattle.lots_core.specs.Fairness.{words_of}
use Rattle.lots_core.proofs.laws.seeds_draw_by_words.Goals as goal

pub returns-clause-words : goal.returns-clause-words
returns-clause-words c = λ seed n.
    let fresh = c.fresh_delivery.ensures.one (start_of seed).inner (n * 8) in
    c.unbroken_delivery.ensures.words 64 n (start_of seed)
    ∙ ap (λ bytes. map (λ i. number_of (take 8 (drop (i * 8) bytes))) (rising n)) fresh

pub returns-clause-draws : goal.returns-clause-draws
returns-clause-draws c = λ seed count n within fits.
    let long : length (rising n) ≡ n = length-range_with_len 0 n in
    let draws : min count (length (rising n)) ≡ count = omega arith in
    let turn = c.shuffles_draw_in_turn.ensures count (start_of seed) (rising n) (omega arith) in
    ap (λ choices. take count (arranged choices (rising n))) turn
    ∙ ap (λ k. take count (arranged (choices_by 0 (numbers_in_turn 64
    (deal_sizes k (length (rising n))) (words_of seed (word_limit * k)))) (rising n))) draws
    ∙ ap (λ m. take count (arranged (choices_by 0 (numbers_in_turn 64
    (deal_sizes count m) (words_of seed (word_limit * count)))) (rising n))) long
