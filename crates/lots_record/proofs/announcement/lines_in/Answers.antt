use Rattle.std.proofs.Common.{◌≡◌, ◌++◌, ◌∙◌, ℕ, List, ap, append_assoc, codes, decimal}
use Rattle.hex.specs.Hex.{encode_lower}
use Rattle.sha2.specs.Sha256.{sha256}
use Rattle.lots_record.specs.Quoted.{quoted}
use Rattle.lots_record.specs.Record.{line}
use Rattle.lots_record.proofs.PlainLemmas.{plain_decimal, plain_one, plain_quoted, plain_sum}
use Rattle.lots_record.proofs.announcement.lines_in.Goals as goal

-- A list's lines and a seed's lines are in turn.
after_list : (a b c : List ℕ) → a ++ b ++ c ≡ a ++ (b ++ c)
after_list a b c = append_assoc a b c

-- The parts of a text, one after another: the title, the occasion, the list, the numbers, the seed, the end.
in_turn : (a b c d e f g h i j rest : List ℕ)
    → a ++ b ++ (c ++ d) ++ e ++ f ++ (g ++ h ++ i ++ j) ++ rest
    ≡ a ++ (b ++ (c ++ (d ++ (e ++ (f ++ (g ++ (h ++ (i ++ (j ++ rest)))))))))
in_turn a b c d e f g h i j rest =
    let seed : g ++ h ++ i ++ j ++ rest ≡ g ++ (h ++ (i ++ (j ++ rest))) =
    append_assoc (g ++ h ++ i) j rest ∙ append_assoc (g ++ h) i (j ++ rest) ∙ append_assoc g h (i ++ (j ++ rest)) in
    let tail = g ++ (h ++ (i ++ (j ++ rest))) in
    append_assoc (a ++ b ++ (c ++ d) ++ e ++ f) (g ++ h ++ i ++ j) rest
    ∙ ap (λ xs. a ++ b ++ (c ++ d) ++ e ++ f ++ xs) seed
    ∙ append_assoc (a ++ b ++ (c ++ d) ++ e) f tail
    ∙ append_assoc (a ++ b ++ (c ++ d)) e (f ++ tail)
    ∙ append_assoc (a ++ b) (c ++ d) (e ++ (f ++ tail))
    ∙ ap (λ xs. a ++ b ++ xs) (append_assoc c d (e ++ (f ++ tail)))
    ∙ append_assoc a b (c ++ (d ++ (e ++ (f ++ tail))))

pub returns : goal.returns
returns c = λ plan list n small bytes is.
    let title = codes "nanorand announcement 1\n" in
    let occasion = line (codes "occasion: ") (quoted plan.occasion) in
    let sum = line (codes "list SHA-256: ") (encode_lower (sha256 list)) in
    let entrants = line (codes "entrants: ") (decimal n) in
    let winners = line (codes "winners: ") (decimal plan.winners) in
    let reserves = line (codes "reserves: ") (decimal plan.reserves) in
    let source = line (codes "seed source: ") (quoted plan.source) in
    let form = line (codes "seed form: ") (quoted plan.form) in
    let example = line (codes "seed example: ") (quoted plan.example) in
    let time = line (codes "time: ") (quoted plan.time) in
    let end = codes "end of the announcement\n" in
    let from_time = time ++ end in
    let from_example = example ++ from_time in
    let from_form = form ++ from_example in
    let from_source = source ++ from_form in
    let from_reserves = reserves ++ from_source in
    let from_winners = winners ++ from_reserves in
    let from_entrants = entrants ++ from_winners in
    let from_sum = sum ++ from_entrants in
    let from_occasion = occasion ++ from_sum in
    let first = c.value_after.ensures.found (codes "1") from_occasion plain_one
    (is ∙ in_turn title occasion sum entrants winners reserves source form example time end) in
    let second = c.value_after-2.ensures.found (quoted plan.occasion) from_sum (plain_quoted plan.occasion) first.1 in
    let third = c.value_after-3.ensures.found (encode_lower (sha256 list)) from_entrants (plain_sum (sha256 list)) second.1 in
    let fourth = c.value_after-4.ensures.found (decimal n) from_winners (plain_decimal n small) third.1 in
    let fifth = c.value_after-5.ensures.found (decimal plan.winners) from_reserves (plain_decimal plan.winners bytes.winners) fourth.1 in
    let sixth = c.value_after-6.ensures.found (decimal plan.reserves) from_source (plain_decimal plan.reserves bytes.reserves) fifth.1 in
    let seventh = c.value_after-7.ensures.found (quoted plan.source) from_form (plain_quoted plan.source) sixth.1 in
    let eighth = c.value_after-8.ensures.found (quoted plan.form) from_example (plain_quoted plan.form) seventh.1 in
    let ninth = c.value_after-9.ensures.found (quoted plan.example) from_time (plain_quoted plan.example) eighth.1 in
    let tenth = c.value_after-10.ensures.found (quoted plan.time) end (plain_quoted plan.time) ninth.1 in
    record {
      format = first.0;
      occasion = second.0;
      winners = fifth.0;
      reserves = sixth.0;
      source = seventh.0;
      form = eighth.0;
      example = ninth.0;
      time = tenth.0;
    }
