use Rattle.nanorand.specs.support.ChaChaDrawLemmas.{chacha_steps, chacha_more, chacha_adds, chacha_closed}
use Rattle.nanorand.specs.support.ChaChaDrawLemmas.{chacha_matrix, chacha_counts, chacha_keeps, chacha_key}
use Rattle.nanorand.specs.support.ChaChaDrawLemmas.{chacha_nonce, chacha_blocks, chacha_agree, chacha_periods}
use Rattle.nanorand.proofs.laws.chacha_counter.Goals as goal

pub returns : goal.returns
returns c = record {
  steps = chacha_steps;
  more = chacha_more;
  adds = chacha_adds;
  closed = chacha_closed;
  matrices = chacha_matrix;
  counts = chacha_counts;
  keeps = chacha_keeps;
  key = chacha_key;
  nonce = chacha_nonce;
  blocks = chacha_blocks;
  agree = chacha_agree;
  periods = chacha_periods;
}
