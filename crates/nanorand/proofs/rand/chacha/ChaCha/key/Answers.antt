use Rattle.std.proofs.Common.{◌≡◌, length, slice_range, rules, ap, ◌∙◌}
use Rattle.nanorand.specs.generators.ChaCha.{key_of}
use Rattle.nanorand.specs.generators.ChaChaRounds.{IsMatrix}
use Rattle.nanorand.proofs.lemmas.chacha.SavedLemmas.{key-bytes, parts}
use Rattle.nanorand.proofs.rand.chacha.ChaCha.key.Goals as goal

pub returns-clause-value : goal.returns-clause-value
returns-clause-value g c =
    let sixteen : length c.words.result ≡ 16 = search rules in
    c.copy_from_slice.ensures.after ∙ ap (λ bytes. slice_range bytes 16 48) c.bytes_of.ensures
    ∙ key-bytes c.words.result sixteen ∙ ap key_of c.words.ensures.value

pub returns-clause-parts : goal.returns-clause-parts
returns-clause-parts g c =
    let matrix : IsMatrix c.words.result = record { sixteen = search rules; words = search rules } in
    rw (← c.words.ensures.value) (parts c.words.result matrix c.words.ensures.begins)
