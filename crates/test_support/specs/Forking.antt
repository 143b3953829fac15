-- The generator `Forking`: numbered streams, whose clone is another stream.
use Rattle.std.specs.Prelude.{ℕ, ◌+◌, ◌%◌, List, [], ◌∷◌}
use Rattle.test_support.specs.declared.generators.forking.Forking.{Forking}
use Rattle.test_support.specs.Steps.{next_count}

-- A block alternates the number of the stream and the number of the block modulo 256.
abbrev pub forking_block : Forking → List ℕ
forking_block g =
    let count = g.drawn % 256 in
    g.stream ∷ count ∷ g.stream ∷ count ∷ g.stream ∷ count ∷ g.stream ∷ count ∷ []

abbrev pub forking_step : Forking → Forking
forking_step g = record { stream = g.stream; drawn = next_count g.drawn }

-- A clone: the next stream, at the same block. After stream 255 there is no next stream.
abbrev pub forked : Forking → Forking
forked g = record { stream = g.stream + 1; drawn = g.drawn }
