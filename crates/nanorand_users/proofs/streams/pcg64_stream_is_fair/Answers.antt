use Rattle.std.proofs.Common.{ℕ, ◌*◌, ◌^◌, ◌∙◌, ap, inr, refl}
use Rattle.nanorand_core.specs.values.Runs.{IsWordWidth, is_in_run}
use Rattle.nanorand_users.proofs.streams.pcg64_stream_is_fair.Goals as goal

pub returns : goal.returns
returns c seed size k fits some room below =
    let width : IsWordWidth 64 = inr (inr (inr refl)) in
    c.pcg64_words_are_equally_frequent.ensures.events seed (λ word. is_in_run 64 size word k) fits
    ∙ ap (λ (n : ℕ). n * 2 ^ 62) ((c.fairness.ensures.runs 64 size width some room).counted k below)
