use Rattle.std.proofs.Common.{◌≡◌, ◌++◌, ◌∷◌, ◌∙◌, [], ℕ, List, Option, Some, None, ap, slice_index, sym, append_assoc, arith, codes, decimal}
use Rattle.hex.specs.Hex.{encode_lower}
use Rattle.sha2.specs.Sha256.{sha256}
use Rattle.lots_core.specs.Lists.{HasNoLineFeed}
use Rattle.lots_record.specs.Claims.{digits_of}
use Rattle.lots_record.specs.Quoted.{quoted}
use Rattle.lots_record.specs.Record.{line, module_line, sum_or_none}
use Rattle.lots_record.proofs.PlainLemmas.{plain_decimal, plain_quoted, plain_sum, plain_sum_or_none, plain_two}
use Rattle.lots_record.proofs.claims.values_of.Goals as goal

-- The parts of a text, one after another.
in_turn : (a b c d e f g rest : List ℕ) → a ++ b ++ c ++ d ++ e ++ f ++ g ++ rest ≡ a ++ (b ++ (c ++ (d ++ (e ++ (f ++ (g ++ rest))))))
in_turn a b c d e f g rest =
    append_assoc (a ++ b ++ c ++ d ++ e ++ f) g rest ∙ append_assoc (a ++ b ++ c ++ d ++ e) f (g ++ rest)
    ∙ append_assoc (a ++ b ++ c ++ d) e (f ++ (g ++ rest)) ∙ append_assoc (a ++ b ++ c) d (e ++ (f ++ (g ++ rest)))
    ∙ append_assoc (a ++ b) c (d ++ (e ++ (f ++ (g ++ rest)))) ∙ append_assoc a b (c ++ (d ++ (e ++ (f ++ (g ++ rest)))))

other_head : (xs ys : List ℕ) → 114 ∷ xs ≡ 109 ∷ ys → ⊥
other_head xs ys is = absurd (omega (arith, ap (λ bytes. slice_index bytes 0) is))

-- The value of the line of the module, or none.
program_value : (program : Option (List ℕ)) (text sum rest value : List ℕ) → text ≡ module_line program ++ (line (codes "result SHA-256: ") sum ++ rest)
    → ((digits after : List ℕ) → HasNoLineFeed digits → text ≡ line (codes "module SHA-256: ") digits ++ after → value ≡ digits)
    → (((after : List ℕ) → text ≡ codes "module SHA-256: " ++ after → ⊥) → value ≡ [])
    → value ≡ digits_of program
program_value None text sum rest value is found absent = absent (λ after other. other_head _ _ (sym is ∙ other))
program_value (Some digest) text sum rest value is found absent = found (encode_lower digest) _ (plain_sum digest) is

pub returns : goal.returns
returns c = λ source list n sum rest small few is.
    let title = codes "nanorand public draw 2\n" in
    let announcement = line (codes "announcement SHA-256: ") (sum_or_none source.announcement) in
    let seed = line (codes "seed: ") (quoted source.seed) in
    let listed = line (codes "list SHA-256: ") (encode_lower (sha256 list)) in
    let entrants = line (codes "entrants: ") (decimal n) in
    let drawn = line (codes "drawn: ") (decimal source.count) in
    let program = module_line source.program in
    let last = line (codes "result SHA-256: ") sum ++ rest in
    let from_program = program ++ last in
    let from_drawn = drawn ++ from_program in
    let from_entrants = entrants ++ from_drawn in
    let from_list = listed ++ from_entrants in
    let from_seed = seed ++ from_list in
    let from_announcement = announcement ++ from_seed in
    let first = c.value_after.ensures.found (codes "2") from_announcement plain_two (is ∙ in_turn title announcement seed listed entrants drawn program last) in
    let second = c.value_after-2.ensures.found (sum_or_none source.announcement) from_seed (plain_sum_or_none source.announcement) first.1 in
    let third = c.value_after-3.ensures.found (quoted source.seed) from_list (plain_quoted source.seed) second.1 in
    let fourth = c.value_after-4.ensures.found (encode_lower (sha256 list)) from_entrants (plain_sum (sha256 list)) third.1 in
    let fifth = c.value_after-5.ensures.found (decimal n) from_drawn (plain_decimal n small) fourth.1 in
    let sixth = c.value_after-6.ensures.found (decimal source.count) from_program (plain_decimal source.count few) fifth.1 in
    record {
      format = first.0;
      announcement = second.0;
      seed = third.0;
      list = fourth.0;
      drawn = sixth.0;
      program = program_value source.program _ sum rest _ sixth.1
          (λ digits after plain other. (c.value_after-7.ensures.found digits after plain other).0) c.value_after-7.ensures.absent;
    }
