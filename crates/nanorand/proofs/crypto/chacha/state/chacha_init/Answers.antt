use Rattle.std.proofs.Common.{rules}
use Rattle.nanorand.proofs.lemmas.chacha.ChaChaStateLemmas.{initial_made}
use Rattle.nanorand.proofs.crypto.chacha.state.chacha_init.Goals as goal

pub returns : goal.returns
returns c =
    initial_made c.args.key c.args.nonce (search rules) (search rules)
    c.read_word.ensures c.read_word-2.ensures c.read_word-3.ensures c.read_word-4.ensures
    c.read_word-5.ensures c.read_word-6.ensures c.read_word-7.ensures c.read_word-8.ensures
    c.read_word-9.ensures c.read_word-10.ensures
