use Rattle.std.proofs.Common.{◌∙◌, ap, sym, rules, arith}
use Rattle.nanorand_replay.specs.generators.Buffered.{buffered_taken}
use Rattle.nanorand.specs.generators.ChaCha.{state_at}
use Rattle.nanorand.specs.generators.ChaChaGroups.{chacha_group, next_group}
use Rattle.nanorand_replay.specs.support.BufferedLemmas.{same_buffer}
use Rattle.nanorand.proofs.lemmas.chacha.SavedLemmas.{blocks-state_at}
use Rattle.nanorand.proofs.lemmas.generators.StreamLemmas.{bytes_of_block}
use Rattle.nanorand.proofs.rand.keystream.BufferedRngChaChaGroups512Keystream512.at_block.Goals as goal

pub returns-clause-bytes : goal.returns-clause-bytes
returns-clause-bytes g c = λ n.
    let R = g.row.ROUNDS in
    let later = blocks-state_at c.args.key c.args.nonce (search rules) (search rules) c.args.index (omega arith) in
    let fresh = same_buffer c.new.ensures.rest (c.new.ensures.inner ∙ c.at.ensures.state ∙ sym later) in
    ap (λ b. buffered_taken (chacha_group R) next_group 512 b n) fresh
    ∙ bytes_of_block R (state_at c.args.key c.args.nonce 0) c.args.index n
