use Rattle.std.proofs.Common.{◌<◌, ◌++◌, length, take, arith, append_assoc, length-set, sym, ◌∙◌}
use Rattle.std.proofs.lemmas.List.{at_drop_all, at_drop_more, take_more_set}
use Rattle.nanorand_replay.specs.declared.replay.Call.TheVariants.{Gen}
use Rattle.nanorand_replay.specs.declared.replay.Kind.TheVariants.{I8}
use Rattle.nanorand_replay.specs.replay.Replay.{replayed}
use Rattle.nanorand_replay.proofs.replay.replay.Goals as goal

pub loop-place-preserved : goal.loop-place-preserved
loop-place-preserved g c =
    let loop = c.loop-place in
    let calls = c.args.calls.now in
    let left = replayed g.G.Rng.requests loop.rng loop.items in
    let front = take loop.place loop.answers in
    let made = c.make_call.ensures in
    let room : loop.place < length loop.answers = omega arith in
    record {
      room = length-set loop.answers loop.place c.make_call.result ∙ loop.invariant.room;
      answers =
          rw (take_more_set, append_assoc, made.answer, made.items, made.state)
          (sym (at_drop_more (λ calls. front ++ (left calls).answers) calls loop.place (Gen I8) c.loop-place-test.true) ∙ loop.invariant.answers);
      items = rw (made.items, made.state)
          (sym (at_drop_more (λ calls. (left calls).items) calls loop.place (Gen I8) c.loop-place-test.true)
          ∙ loop.invariant.items);
      state = rw (made.items, made.state)
          (sym (at_drop_more (λ calls. (left calls).state) calls loop.place (Gen I8) c.loop-place-test.true)
          ∙ loop.invariant.state);
    }

pub returns-clause-state : goal.returns-clause-state
returns-clause-state g c =
    let loop = c.loop-place in
    sym (at_drop_all (λ calls. (replayed g.G.Rng.requests loop.rng loop.items calls).state) c.args.calls.now loop.place c.loop-place-test.false)
    ∙ loop.invariant.state
