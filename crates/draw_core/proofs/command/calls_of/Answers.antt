use Rattle.std.proofs.Common.{◌≡◌, ℕ, ◌+◌, ◌<◌, Result, Err, length, sym, subst, ◌∙◌, arith, below_more}
use Rattle.std.proofs.lemmas.List.{length-map}
use Rattle.std.specs.Prelude.{string_bytes}
use Rattle.nanorand_replay.specs.declared.replay.Call.{Call}
use Rattle.draw_core.specs.declared.error.DrawError.{DrawError}
use Rattle.draw_core.specs.declared.error.DrawError.TheVariants.{BadWord}
use Rattle.draw_core.specs.Requests.{IsRequest}
use Rattle.draw_core.specs.Arguments.{argument_at, texts}
use Rattle.draw_core.proofs.lemmas.ReadArguments.{text_at, said_all, said_more, only_more}
use Rattle.draw_core.proofs.command.calls_of.Goals as goal

-- Equal `BadWord` errors have equal numbers.
same_word : {T : Type 0} (n k : ℕ) → (let given : Result T DrawError = Err (BadWord n) in given ≡ Err (BadWord k)) → k ≡ n
same_word n k failed = cc

pub loop-index-preserved : goal.loop-index-preserved
loop-index-preserved g c =
    let loop = c.loop-index in
    let arguments = texts c.args.requests.now in
    let within : loop.index < length arguments = omega (arith, length-map c.args.requests.now string_bytes) in
    let text = text_at c.args.requests.now loop.index c.index-requests-index.result (omega arith) c.index-requests-index.is ∙ sym c.as_str.ensures.value in
    let here : IsRequest (argument_at arguments loop.index) c.in-Some.call = subst (λ t. IsRequest t c.in-Some.call) (sym text) c.in-Some.ensures.found in
    let one = λ (other : Call) (said : IsRequest (argument_at arguments loop.index) other). c.in-Some.ensures.only
    other (subst (λ t. IsRequest t other) text said) in
    let pushed = c.in_ok-push.ensures.items in
    rw pushed (record {
      said = said_more arguments loop.calls.items loop.index within c.in-Some.call loop.invariant.said here;
      only = only_more arguments loop.calls.items loop.index within c.in-Some.call loop.invariant.only one;
      read = below_more _ loop.index loop.invariant.read (c.in-Some.call, here);
    })

pub returns-clause-said : goal.returns-clause-said
returns-clause-said g c =
    let loop = c.loop-index in
    said_all (texts c.args.requests.now) loop.calls.items loop.index (omega (arith, length-map c.args.requests.now string_bytes)) loop.invariant.said

pub returns-in_default-clause-bad : goal.returns-in_default-clause-bad
returns-in_default-clause-bad g c = λ k failed.
    let loop = c.loop-index in
    let text = text_at c.args.requests.now loop.index c.index-requests-index.result (omega arith) c.index-requests-index.is ∙ sym c.as_str.ensures.value in
    record {
      index = loop.index;
      number = same_word (loop.index + 5) k failed;
      there = omega (arith, length-map c.args.requests.now string_bytes);
      unreadable = λ call said. c.in_default.not-Some call (c.call_of.ensures.only call (subst (λ t. IsRequest t call) text said));
      first = loop.invariant.read;
    }
