use Rattle.std.proofs.Common.{◌≡◌, ◌*◌, ◌<◌, ◌≤◌, subst, ◌∷◌, [], length, take, append_assoc, refl, ap, ◌∙◌, arith, of_calls}
use Rattle.std.proofs.lemmas.List.{take_more_set, take_all, append-nil}
use Rattle.std.proofs.RetainMut.{Called-Mut}
use Rattle.std.specs.Fn.{CalledAtMut, iterate}
use Rattle.nanorand_core.specs.values.Fills.{CallsReturn}
use Rattle.nanorand_core.specs.values.Values.{values_from}
use Rattle.nanorand_core.proofs.lemmas.FillLemmas.{values_drawn, state_left, steps_taken, all_pass, own_values, own_state, own_steps, own_pass}
use Rattle.nanorand_core.proofs.values.fill_with.Goals as goal

pub loop-item-preserved : goal.loop-item-preserved
loop-item-preserved g c =
    let at = c.loop-item in
    let place = at.item-index in
    let within : place < length at.target = omega arith in
    record {
      callable = search of_calls;
      ran = λ xs end rest.
          rw (take_more_set at.target place c.draw.result within, append_assoc)
          (at.invariant.ran (c.draw.result ∷ xs) end (_, _, Called-Mut g.F.FnMut c.draw.ensures, rest));
    }

pub returns : goal.returns
returns g c =
    let at = c.loop-item in
    let Call = CalledAtMut g.F.FnMut in
    let all : take at.item-index at.target ≡ at.target = take_all at.item-index at.target (omega arith) in
    let long : length at.target ≡ length c.args.target.now = omega arith in
    let ran : CallsReturn Call c.args.draw c.args.rng.now at.target at.rng = rw (append-nil, all) at (at.invariant.ran [] at.rng refl) in
    record {
      ran = ran;
      values = λ value after each. values_drawn Call value after each at.target c.args.draw c.args.rng.now at.rng ran
          ∙ ap (λ n. values_from value after n c.args.rng.now) long;
      state = λ after each. state_left Call after each at.target c.args.draw c.args.rng.now at.rng ran
          ∙ ap (λ n. iterate after n c.args.rng.now) long;
      words = λ step most each.
          let taken = steps_taken Call step most each at.target c.args.draw c.args.rng.now at.rng ran in
          (taken.0, subst (λ count. taken.0 ≤ most * count) long taken.1, taken.2);
      all = λ test each. all_pass Call test each at.target c.args.draw c.args.rng.now at.rng ran;
      own_values = λ value after each. own_values Call c.args.draw value after each at.target c.args.rng.now at.rng ran
          ∙ ap (λ n. values_from value after n c.args.rng.now) long;
      own_state = λ after each. own_state Call c.args.draw after each at.target c.args.rng.now at.rng ran
          ∙ ap (λ n. iterate after n c.args.rng.now) long;
      own_words = λ step most each.
          let taken = own_steps Call c.args.draw step most each at.target c.args.rng.now at.rng ran in
          (taken.0, subst (λ count. taken.0 ≤ most * count) long taken.1, taken.2);
      own_all = λ test each. own_pass Call c.args.draw test each at.target c.args.rng.now at.rng ran;
    }
