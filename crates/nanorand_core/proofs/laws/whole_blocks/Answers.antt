use Rattle.std.proofs.Common.{ap}
use Rattle.nanorand_core.specs.support.BlockLemmas.{delivered_block}
use Rattle.nanorand_core.specs.values.Values.{number_of}
use Rattle.nanorand_core.proofs.laws.whole_blocks.Goals as goal

pub returns-clause-bytes : goal.returns-clause-bytes
returns-clause-bytes g c =
    let laws = g.met.G.Blocks in
    delivered_block g.G.Blocks.block g.G.Blocks.step g.row.OUTPUT laws.positive laws.block_length g.G.Rng.requests.bytes g.met.G.Rng.delivers

pub returns-clause-number : goal.returns-clause-number
returns-clause-number g c = λ state. ap number_of (returns-clause-bytes g c state)

pub returns-clause-state : goal.returns-clause-state
returns-clause-state g c = g.met.G.Rng.after_block
