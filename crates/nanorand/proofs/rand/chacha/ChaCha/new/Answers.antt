use Rattle.std.proofs.Common.{◌≡◌, ◌++◌, length, take, drop, arith, ◌∙◌, subst, refl, Result, Ok, Err, OnErr}
use Rattle.std.proofs.lemmas.List.{length-append}
use Rattle.std.proofs.Math.Seq.{take-append_seam, drop-append_seam}
use Rattle.std.proofs.KnownBytes.{Consumes-trans}
use Rattle.nanorand.specs.generators.Entropy.{TakesFewer}
use Rattle.nanorand.proofs.rand.chacha.ChaCha.new.Goals as goal

-- what holds in any case holds after an error
on_err : {A E P : Type 0} (r : Result A E) → P → OnErr r P
on_err (Ok a) p = tt
on_err (Err e) p = p

pub returns-clause-made : goal.returns-clause-made
returns-clause-made g c =
    let key = c.system.new.out in
    let nonce = c.system-2.new.out in
    let key_length : length key ≡ 32 = c.system.auto.out in
    let nonce_length : length nonce ≡ 8 = c.system-2.auto.out in
    let both : length (key ++ nonce) ≡ 40 = omega (arith, length-append key nonce) in
    let front : take 32 (key ++ nonce) ≡ key = subst (λ n. take n (key ++ nonce) ≡ key) key_length (take-append_seam key nonce) in
    let back : drop 32 (key ++ nonce) ≡ nonce = subst (λ n. drop n (key ++ nonce) ≡ nonce) key_length (drop-append_seam key nonce) in
    (key ++ nonce, both, Consumes-trans _ _ _ _ _ c.in_ok-system.ensures.next c.in_ok-system-2.ensures.next, c.new_key.ensures.state ∙ rw (front, back) refl)

pub returns-in_err-system-2-clause-fewer : goal.returns-in_err-system-2-clause-fewer
returns-in_err-system-2-clause-fewer g c =
    let key = c.system.new.out in
    let key_length : length key ≡ 32 = c.system.auto.out in
    let rest = c.in_err-system-2.ensures.fewer in
    let fewer : TakesFewer (g.R.Read.remaining c.args.source.now) (g.R.Read.remaining c.system-2.new.source) 40 =
    (key ++ rest.0, omega (arith, length-append key rest.0, key_length, rest.1), Consumes-trans _ _ _ _ _ c.in_ok-system.ensures.next rest.2) in
    on_err _ fewer
