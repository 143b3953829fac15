pub mod Pcg64Words
pub mod WyRandWords
pub mod SeedsOfNumbers
pub mod Cycles
pub mod Parts
pub mod ChaChaBlocks
pub mod ChaChaStates
pub mod ShufflesByKeys
