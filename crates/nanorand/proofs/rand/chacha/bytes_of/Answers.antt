use Rattle.std.proofs.Common.{◌≡◌, ℕ, [], ◌∷◌, ◌+◌, ◌*◌, ◌++◌, length, take, get_or, length-append, length-take, length-drop, arith, ap, ap₂, sym, ◌∙◌}
use Rattle.std.specs.Int.{w32, to_le_bytes}
use Rattle.std.proofs.lemmas.List.{take_more}
use Rattle.std.proofs.lemmas.Slice.{take-put_mid}
use Rattle.std.proofs.lemmas.Grind.{flat_map-append}
use Rattle.nanorand.specs.generators.ChaCha.{bytes}
use Rattle.nanorand.proofs.rand.chacha.bytes_of.Goals as goal

pub words-preserved : goal.words-preserved
words-preserved c =
    let i : ℕ = c.words.i in
    let words = c.args.words.now in
    let piece = c.copy_from_slice.ensures.after ∙ c.to_le_bytes.ensures in
    let long : length c.copy_from_slice.new.self ≡ 4 = ap length piece in
    record {
      whole = simp (length-append, length-take, length-drop, long) (omega arith);
      written =
          take-put_mid (4 * i) _ c.words.bytes c.copy_from_slice.new.self (4 * (i + 1)) (omega arith) (omega arith)
          ∙ ap₂ (λ front part. front ++ part) c.words.invariant.written piece
          ∙ sym (ap bytes (take_more words i 0 (omega arith)) ∙ flat_map-append (to_le_bytes w32) (take i words) (get_or words i 0 ∷ []));
    }
