use Rattle.std.proofs.Common.{rules, ◌≡◌, subst, sym, arith}
use Rattle.std.proofs.lemmas.Grind.{common_steps}
use Rattle.lots_core.specs.Arguments.{IsNumber, texts}
use Rattle.lots_record.proofs.CommandLemmas.{announced}
use Rattle.lots_core.specs.declared.arguments.Count.TheVariants.{Of}
use Rattle.lots_record.proofs.command.announce_command.Goals as goal
use Rattle.lots_record.proofs.command.announce_command.Goals.{in_default-2-via-in-Some+in-Of+in-Some+in_default, in_default-2-via-in-Some+in-Of+in_default, in_default-2-via-in-Some+in_default, in_default-2-via-in_default}

pub returns-in_default-2 : goal.returns-in_default-2
returns-in_default-2 c = λ command names.
    let known = announced (texts c.args.values.now) command names in
    let winners : c.as_str.result.now ≡ known.1 =
    grind (arith, common_steps, known.8, c.winners-item.is, c.as_str.ensures.value, c.in-len7.len_at_least) in
    let reserves : c.as_str-2.result.now ≡ known.2 =
    grind (arith, common_steps, known.8, c.reserves-item.is, c.as_str-2.ensures.value, c.in-len7.len_at_least) in
    let first = c.count_of.ensures.only (Of known.4) (subst (λ text. IsNumber text known.4) (sym winners) known.6) in
    let second = c.count_of-2.ensures.only (Of known.5) (subst (λ text. IsNumber text known.5) (sym reserves) known.7) in
    absurd (elim c.in_default-2.branch [
      | in_default-2-via-in-Some+in-Of+in-Some+in_default w ↦ grind (arith, common_steps, first, second, w)
      | in_default-2-via-in-Some+in-Of+in_default w ↦ grind (arith, common_steps, first, second, w)
      | in_default-2-via-in-Some+in_default w ↦ grind (arith, common_steps, first, second, w)
      | in_default-2-via-in_default w ↦ grind (arith, common_steps, first, second, w)
    ])

pub returns : goal.returns
returns c = (
  c.as_str.result.now,
  c.as_str-2.result.now,
  search rules,
  search rules,
  search rules,
  grind (
    arith,
    common_steps,
    c.in-len7.len_at_least,
    c.in-len7.len_below,
    c.occasion-item.is,
    c.winners-item.is,
    c.reserves-item.is,
    c.source-item.is,
    c.form-item.is,
    c.example-item.is,
    c.time-item.is,
    c.as_str-3.ensures.value,
    c.as_str.ensures.value,
    c.as_str-2.ensures.value,
    c.as_str-4.ensures.value,
    c.as_str-5.ensures.value,
    c.as_str-6.ensures.value,
    c.as_str-7.ensures.value,
  ),
)
