-- The generators: their blocks and requests, the state after many draws, their parts, their seeds,
-- and the texts that `{:?}` writes.
pub mod Halves
pub mod WyRand
pub mod ChaChaRounds
pub mod ChaCha
pub mod ChaChaGroups
pub mod Pcg64
pub mod Frequencies
pub mod Entropy
pub mod SplitMix
pub mod DebugTexts
pub mod Parts
