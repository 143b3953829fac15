use Rattle.std.proofs.Common.{ℕ, ◌*◌, ◌∙◌, slice_index, sym, ap}
use Rattle.std.proofs.Math.Nat.{mul_assoc}
use Rattle.nanorand_core.specs.values.Runs.{quota}
use Rattle.std.specs.List.{sum}
use Rattle.nanorand_users.proofs.choice.requests_follow_strengths.Goals as goal

pub returns : goal.returns
returns c = λ bits strengths i j n width some fits i_low j_low strength.
    let fair = c.weighted_choices_are_fair.ensures bits strengths in
    let words = quota bits (sum strengths) in
    fair j width some fits j_low ∙ ap (λ (w : ℕ). w * words) strength
    ∙ mul_assoc n (slice_index strengths i) words ∙ ap (λ (w : ℕ). n * w) (sym (fair i width some fits i_low))
