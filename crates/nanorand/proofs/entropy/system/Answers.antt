use Rattle.std.proofs.lemmas.List.{take_all}
use Rattle.std.proofs.Common.{◌≡◌, ℕ, ◌+◌, ◌-◌, ◌≤◌, List, [], ◌++◌, length, rules, take, drop, ap, sym, subst, ◌∙◌}
use Rattle.std.proofs.Common.{le_refl, drop_at, length-append, length-take-le, arith}
use Rattle.std.proofs.lemmas.Slice.{take-put_mid_below}
use Rattle.std.proofs.KnownBytes.{Consumes-kept, Consumes-trans}
use Rattle.std.specs.Io.KnownBytes.{Consumes}
use borrow.Rule.Slice.PartMut.{put_mid, post_of}
use lib.Seq.{take-add, take-append-le}
use Rattle.nanorand.proofs.entropy.system.Goals as goal

-- after n bytes are written at index a, the first a + n are the first a from before, followed by
-- those n
take-put_mid_within : (a n k : ℕ) (xs ys : List ℕ) → a ≤ length xs → n ≤ length ys → take (a + n) (put_mid a k xs ys) ≡ take a xs ++ take n ys
take-put_mid_within a n k xs ys within fits =
    let after = post_of a k xs in
    let new = put_mid a k xs ys in
    take-add a n new
    ∙ ap (λ front. front ++ take n (drop a new)) (take-put_mid_below a k xs ys a (le_refl a) within)
    ∙ ap (λ rest. take a xs ++ take n rest) (drop_at (take a xs) (ys ++ after) a (length-take-le a xs within))
    ∙ ap (λ part. take a xs ++ part) (take-append-le n ys after fits)

pub loop-filled-preserved : goal.loop-filled-preserved
loop-filled-preserved g c =
    let loop = c.loop-filled in
    let part = take-put_mid_within loop.filled c.in-Ok.count
    (length loop.out - loop.filled) loop.out c.read.new.buf loop.invariant.in_slice c.in-Ok.ensures.bound.0 in
    record {
      in_slice = search rules;
      so_far = subst (Consumes _ _) (sym part) (Consumes-trans _ _ _ _ _ loop.invariant.so_far c.in-Ok.ensures.bytes.0);
      at_first = λ none. absurd (c.in-Ok.count-test.1 (omega arith));
    }

pub returns-in-Ok-eq0-clause-next : goal.returns-in-Ok-eq0-clause-next
returns-in-Ok-eq0-clause-next g c = tt

pub returns-in-Err-clause-short : goal.returns-in-Err-clause-short
returns-in-Err-clause-short g c = λ same. cc

pub returns-in-Err-clause-error : goal.returns-in-Err-clause-error
returns-in-Err-clause-error g c = search rules

pub returns-clause-unread : goal.returns-clause-unread
returns-clause-unread g c = λ none. c.loop-filled.invariant.at_first (omega (arith, ap length none))

pub returns-clause-next : goal.returns-clause-next
returns-clause-next g c =
    subst (Consumes _ _) (take_all c.loop-filled.filled c.loop-filled.out c.loop-filled-test.false) c.loop-filled.invariant.so_far

pub returns-in-Ok-eq0-clause-fewer : goal.returns-in-Ok-eq0-clause-fewer
returns-in-Ok-eq0-clause-fewer g c =
    let loop = c.loop-filled in
    let taken = take loop.filled loop.out in
    let none = ap (λ n. taken ++ take n c.read.new.buf) c.in-Ok-eq0.field-0-test in (
      taken ++ [],
      omega (
        arith,
        length-take-le loop.filled loop.out loop.invariant.in_slice,
        length-append taken [],
        loop.auto.out,
      ),
      subst (Consumes _ _) none
          (Consumes-trans _ _ _ _ _ loop.invariant.so_far c.in-Ok-eq0.ensures.bytes.0),
    )

pub returns-in-Err-clause-fewer : goal.returns-in-Err-clause-fewer
returns-in-Err-clause-fewer g c =
    let loop = c.loop-filled in
    let taken = take loop.filled loop.out in (
      taken,
      omega (arith, length-take-le loop.filled loop.out loop.invariant.in_slice, loop.auto.out),
      Consumes-kept _ _ _ _ loop.invariant.so_far c.in-Err.ensures.bytes,
    )
