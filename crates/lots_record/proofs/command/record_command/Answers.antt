use Rattle.std.proofs.Common.{◌∙◌, take, string_bytes, subst, sym, arith}
use Rattle.std.proofs.lemmas.Grind.{common_steps}
use Rattle.std.proofs.lemmas.List.{length-map, take-map}
use Rattle.lots_core.specs.Arguments.{Asked, AsksFor, texts}
use Rattle.lots_record.proofs.CommandLemmas.{other_words, three_words}
use Rattle.lots_record.proofs.command.record_command.Goals as goal
use Rattle.lots_record.proofs.command.record_command.Goals.{in-len3, in_default, in_default-via-then-values-lt3, in_default-via-else-values-lt3+else-values-lt4}

pub returns-in-None : goal.returns-in-None
returns-in-None c = λ command names.
    let values = c.args.values.now in
    absurd (elim c.if-values-lt3.branch [
      | in-len3 w ↦
          let none = subst (λ asks. (asked : Asked) → AsksFor (texts asks.0.now) asked → ⊥) w.t-7-is c.in-None.ensures.only in
          three_words (texts values) (texts (take 2 values)) (sym (take-map string_bytes 2 values))
          (length-map values string_bytes ∙ omega (arith, w.in-len3.len_at_least, w.in-len3.len_below)) none command names
      | in_default w ↦
          let none = subst (λ asks. (asked : Asked) → AsksFor (texts asks.0.now) asked → ⊥) w.t-7-is c.in-None.ensures.only in
          other_words (texts values) (elim w.in_default.branch [
            | in_default-via-then-values-lt3 w' ↦ λ three. grind (arith, common_steps, three, length-map values string_bytes, w')
            | in_default-via-else-values-lt3+else-values-lt4 w' ↦ λ three. grind (arith, common_steps, three, length-map values string_bytes, w')
          ]) none command names
    ])
