use Rattle.std.proofs.Common.{◌≡◌, length, slice_range, rules, ap, ◌∙◌}
use Rattle.nanorand.specs.generators.ChaCha.{nonce_of}
use Rattle.nanorand.proofs.lemmas.chacha.SavedLemmas.{nonce-bytes}
use Rattle.nanorand.proofs.rand.chacha.ChaCha.nonce.Goals as goal

pub returns : goal.returns
returns g c =
    let sixteen : length c.words.result ≡ 16 = search rules in
    c.copy_from_slice.ensures.after ∙ ap (λ bytes. slice_range bytes 56 64) c.bytes_of.ensures
    ∙ nonce-bytes c.words.result sixteen ∙ ap nonce_of c.words.ensures.value
