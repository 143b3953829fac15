-- Shuffles, and the permutations that their choices make.
pub mod Shuffles
pub mod Arrangements
