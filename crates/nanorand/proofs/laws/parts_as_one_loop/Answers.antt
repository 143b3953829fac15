use Rattle.std.proofs.Common.{refl, ◌∙◌, sym}
use Rattle.nanorand.specs.generators.Parts.{on_a_copy, part_at}
use Rattle.nanorand.proofs.lemmas.generators.LoopLemmas.{left-of-loop, results-of-loop}
use Rattle.nanorand.proofs.lemmas.generators.PartLemmas.{in_any_order}
use Rattle.nanorand.proofs.laws.parts_as_one_loop.Goals as goal

pub returns : goal.returns
returns g c =
    let requests = g.G.Rng.requests in
    record {
      parts = λ task draws count stream exact. results-of-loop requests task draws stream count exact;
      left = λ task draws count stream exact. left-of-loop requests task draws stream count exact;
      schedules = λ task draws count stream schedule results exact long each.
          in_any_order (λ i. (task i (part_at requests draws i stream)).0) count schedule results long each
          ∙ sym (results-of-loop requests task draws stream count exact);
      jumps = λ task draws count stream.
          results-of-loop requests (on_a_copy requests task draws) draws stream count (λ _ _. refl);
      jumping_schedules = λ task draws count stream schedule results long each.
          in_any_order (λ i. task i (part_at requests draws i stream)) count schedule results long each
          ∙ sym (results-of-loop requests (on_a_copy requests task draws) draws stream count (λ _ _. refl));
    }
