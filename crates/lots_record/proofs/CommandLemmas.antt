-- Arguments that name no command.
use Rattle.std.proofs.Common.{◌≡◌, ◌∷◌, codes, ℕ, length, take, drop, List, [], ◌++◌, None, Some, ap, sym, subst, ◌∙◌, arith}
use Rattle.std.proofs.lemmas.Grind.{common_steps}
use Rattle.lots_core.specs.Arguments.{Asked, AsksFor, IsNumber, asked_by}
use Rattle.lots_record.specs.Command.{Names}
use Rattle.lots_record.specs.declared.command.Command.{Command}
use Rattle.lots_record.specs.declared.command.Command.TheVariants.{Announce, Check, Draw, Help, Version}
use Rattle.lots_record.specs.declared.command.Command.TheVariants.{Record as ARecord}

-- What follows `--record`, if it is not three words, names a command only if it asks for a draw. If it is three words,
-- the first two ask for a draw.
module _ (values : List (List ℕ)) where
  pub other_words : (length values ≡ 3 → ⊥) → ((asked : Asked) → AsksFor values asked → ⊥)
      → (command : Command) → Names (codes "--record" ∷ values) command → ⊥
  other_words long none Draw names = names
  other_words long none (Announce plan) names = grind (arith, common_steps, names.2, names.3, names.4)
  other_words long none (ARecord request None) names =
      let same : names.0 ≡ values = grind (arith, common_steps, names.1) in
      none (asked_by request) (subst (λ words. AsksFor words (asked_by request)) same names.2)
  other_words long none (ARecord request (Some path)) names = grind (arith, common_steps, names.1, names.2.two, long)
  other_words long none (Check file None) names = grind (arith, common_steps, names)
  other_words long none (Check file (Some path)) names = grind (arith, common_steps, names)
  other_words long none Version names = grind (arith, common_steps, names)
  other_words long none Help names = grind (arith, common_steps, names)

  pub three_words : (words : List (List ℕ)) → words ≡ take 2 values → length values ≡ 3
      → ((asked : Asked) → AsksFor words asked → ⊥)
      → (command : Command) → Names (codes "--record" ∷ values) command → ⊥
  three_words words is long none Draw names = names
  three_words words is long none (Announce plan) names = grind (arith, common_steps, names.2, names.3, names.4)
  three_words words is long none (ARecord request None) names = grind (arith, common_steps, names.1, names.2.two, long)
  three_words words is long none (ARecord request (Some path)) names =
      let after = ap (drop 1) names.1 ∙ ap (λ two. two ++ path.now ∷ []) names.2.two in
      let same = names.2.two ∙ sym (is ∙ ap (take 2) after) in
      none (asked_by request) (subst (λ two. AsksFor two (asked_by request)) same names.2)
  three_words words is long none (Check file None) names = grind (arith, common_steps, names)
  three_words words is long none (Check file (Some path)) names = grind (arith, common_steps, names)
  three_words words is long none Version names = grind (arith, common_steps, names)
  three_words words is long none Help names = grind (arith, common_steps, names)

  -- What follows `--announce` names a command only if it is seven words, of which the second and third
  -- are numbers.
  pub announced : (command : Command) → Names (codes "--announce" ∷ values) command
      → (a winners reserves : List ℕ) × (rest : List (List ℕ)) × (m n : ℕ) × IsNumber winners m × IsNumber reserves n
      × (values ≡ a ∷ winners ∷ reserves ∷ rest)
  announced Draw names = absurd names
  announced (Announce plan) names = (
    plan.occasion.now,
    names.0,
    names.1,
    plan.source.now ∷ plan.form.now ∷ plan.example.now ∷ plan.time.now ∷ [],
    plan.winners,
    plan.reserves,
    names.2,
    names.3,
    ap (drop 1) names.5,
  )
  announced (ARecord request None) names = absurd (grind (arith, common_steps, names.1))
  announced (ARecord request (Some path)) names = absurd (grind (arith, common_steps, names.1))
  announced (Check file None) names = absurd (grind (arith, common_steps, names))
  announced (Check file (Some path)) names = absurd (grind (arith, common_steps, names))
  announced Version names = absurd (grind (arith, common_steps, names))
  announced Help names = absurd (grind (arith, common_steps, names))
